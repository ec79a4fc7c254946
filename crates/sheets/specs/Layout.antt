-- The layout of a sheet: which bytes state which runs.
use Rattle.std.specs.Prelude.{◌≡◌, ℕ, ◌+◌, ◌*◌, ◌/◌, ◌%◌, ◌^◌, ◌<◌, ◌≤◌, true, List, [], ◌∷◌, ◌++◌, map, length, is_some, Option}
use Rattle.std.specs.List.{flat_map, AllByRecursion}
use Rattle.sheets.specs.Sheets.{Entry, entry}

-- a 32-bit field, lowest byte first
unfoldable pub field : ℕ → List ℕ
field w = w % 256 ∷ w / 256 % 256 ∷ w / 256 / 256 % 256 ∷ w / 256 / 256 / 256 % 256 ∷ []

-- an arc of a run: a target and a label word
pub record Mark : Type 0 where
  pub to : ℕ
  pub word : ℕ

abbrev pub run_bytes : List Mark → List ℕ
run_bytes run = flat_map (λ m. field m.to ++ field m.word) run

-- the pairs of offset and length, of runs that begin at a byte
abbrev pub pair_bytes : ℕ → List (List Mark) → List ℕ
pair_bytes at [] = []
pair_bytes at (run ∷ runs) = field at ++ (field (8 * length run) ++ pair_bytes (at + 8 * length run) runs)

-- n, the pairs, the runs
abbrev pub sheet_bytes : List (List Mark) → List ℕ
sheet_bytes runs = field (length runs) ++ (pair_bytes (4 + 8 * length runs) runs ++ flat_map run_bytes runs)

-- the arcs that runs state, those of package p first
abbrev pub stated_from : ℕ → List (List Mark) → List Entry
stated_from p [] = []
stated_from p (run ∷ runs) = map (λ m. entry p m.to m.word) run ++ stated_from (p + 1) runs

pub record EntryOk {L : Type 0} (named : ℕ → Option L) (n : ℕ) (e : Entry) : Type 0 where
  pub from_in : e.from < n
  pub to_in : e.to < n
  pub apart : e.from ≡ e.to → ⊥
  pub labelled : is_some (named e.word) ≡ true
  pub fits : e.word < 2 ^ 32

pub record Lawful {L : Type 0} (named : ℕ → Option L) (runs : List (List Mark)) : Type 0 where
  pub some : 1 ≤ length runs
  pub most : length runs ≤ 1024
  pub few : length (stated_from 0 runs) ≤ 65536
  pub arcs : AllByRecursion (EntryOk named (length runs)) (stated_from 0 runs)

-- the bytes are the sheet of these lawful runs
pub record States {L : Type 0} (named : ℕ → Option L) (bytes : List ℕ) (runs : List (List Mark)) : Type 0 where
  pub lawful : Lawful named runs
  pub layout : bytes ≡ sheet_bytes runs
