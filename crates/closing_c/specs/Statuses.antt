-- What callers in C are told, and what their tables and records are left with.
use Rattle.std.specs.Prelude.{ℕ, Bool, false, not, List, Ok, Err, Result}
use Rattle.labels.specs.declared.kinds.Minutes.{Minutes}
use Rattle.labels.specs.Kinds.{minutes_ops, minutes_named}
use Rattle.catalogue.specs.Refusals.{then}
use Rattle.catalogue.specs.Meanings.{Meaning, in_force}
use Rattle.catalogue.specs.Makings.{first_meaning, sheet_of}
use Rattle.tables.specs.Closings.{elimination_answer, rounds_answer, closing_leaves}
use Rattle.graphs.specs.declared.record.PackageRecord.{PackageRecord}
use Rattle.graphs.specs.Records.{Sorted}
use Rattle.graphs.specs.Answers.{sort_answer, order_lacks, order_answer}

-- what a sheet's bytes mean, or the number of the refusal
abbrev pub read : List ℕ → Result (Meaning Minutes) ℕ
read bytes = first_meaning minutes_ops minutes_named (sheet_of bytes)

abbrev pub elimination_of : List ℕ → ℕ → Result (Unit {0}) ℕ
elimination_of bytes cells = then (read bytes) (λ m. elimination_answer minutes_ops m cells)

abbrev pub rounds_of : List ℕ → ℕ → ℕ → ℕ → Result ℕ ℕ
rounds_of bytes cells changed found = then (read bytes) (λ m. rounds_answer minutes_ops m cells changed found)

abbrev pub order_of : List ℕ → ℕ → ℕ → ℕ → Result (Unit {0}) ℕ
order_of bytes cells records words = then (read bytes) (λ m. order_answer m cells records words)

abbrev pub sort_of : List ℕ → ℕ → ℕ → Result ℕ ℕ
sort_of bytes records words = then (read bytes) (λ m. sort_answer m records words)

-- does a closing by order sort? also where a chain then leads back to its start
abbrev pub order_sorts : Result (Meaning Minutes) ℕ → ℕ → ℕ → ℕ → Bool
order_sorts (Ok m) cells records words = not (order_lacks m cells records words)
order_sorts (Err k) cells records words = false

-- what is made of the records where a sheet is sorted
abbrev pub SheetSorted : Result (Meaning Minutes) ℕ → List PackageRecord → List PackageRecord → Type 0
SheetSorted (Ok m) old new = Sorted (in_force m) m.n old new
SheetSorted (Err k) old new = ⊥

-- what a closing of a sheet with this answer leaves of a table
abbrev pub sheet_closing_leaves : {A : Type 0} → Result (Meaning Minutes) ℕ → Result A ℕ → List Minutes → List Minutes
sheet_closing_leaves (Ok m) answer old = closing_leaves minutes_ops m answer old
sheet_closing_leaves (Err k) answer old = old

-- 0, or the number of the refusal
abbrev pub status : {A : Type 0} → Result A ℕ → ℕ
status (Ok v) = 0
status (Err k) = k
