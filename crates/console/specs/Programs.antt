-- Lines one after the other, from the making on.
use Rattle.std.specs.Prelude.{◌≡◌, ℕ, ◌<◌, cond, List, [], ◌∷◌, ◌++◌, length, take, drop, Ok, Err, Result, nat_lt, option_and_then, slice_index_or}
use Rattle.std.specs.Option.{option_map_or}
use Rattle.labels.specs.declared.kinds.Minutes.{Minutes}
use Rattle.labels.specs.Kinds.{minutes_ops, minutes_named}
use Rattle.catalogue.specs.Meanings.{Meaning}
use Rattle.catalogue.specs.Makings.{ledger_of, holding_over, first_meaning}
use Rattle.catalogue.specs.declared.call.Call.{Call}
use Rattle.catalogue.specs.Runs.{reckon}
use Rattle.runs.specs.Runs.{Lengths}
use Rattle.console.specs.declared.reply.Reply.{Reply}
use Rattle.console.specs.Grammar.{command_of}
use Rattle.console.specs.Sessions.{call_of, obeyed, after}

-- the answers to lines, and what these leave of the catalogue
abbrev pub answers_of : Meaning Minutes → Lengths → List (List ℕ) → List (Result Reply ℕ)
answers_of m t [] = []
answers_of m t (line ∷ lines) = obeyed m t line ∷ answers_of (after m line) t lines

abbrev pub after_all : Meaning Minutes → List (List ℕ) → Meaning Minutes
after_all m [] = m
after_all m (line ∷ lines) = after_all (after m line) lines

-- whether so many places suffice for the answers to so many lines, and what is then left in them
abbrev pub follow_answer : ℕ → ℕ → Result (Unit {0}) ℕ
follow_answer lines places = cond (nat_lt places lines) (Err 13) (Ok tt)

abbrev pub follow_leaves : Meaning Minutes → Lengths → List (List ℕ) → List (Result Reply ℕ) → List (Result Reply ℕ)
follow_leaves m t lines old = cond (nat_lt (length old) (length lines)) old (answers_of m t lines ++ drop (length lines) old)

-- what the program's stack means at first: holds over a ledger of n packages and so many arcs
abbrev pub program_first : ℕ → ℕ → Result (Meaning Minutes) ℕ
program_first n places = first_meaning minutes_ops minutes_named (holding_over (ledger_of n places))

abbrev pub program_answer : Result (Meaning Minutes) ℕ → ℕ → ℕ → Result (Unit {0}) ℕ
program_answer (Ok m) lines places = follow_answer lines places
program_answer (Err k) lines places = Err k

abbrev pub program_leaves : Result (Meaning Minutes) ℕ → Lengths → List (List ℕ) → List (Result Reply ℕ) → List (Result Reply ℕ)
program_leaves (Ok m) t lines old = follow_leaves m t lines old
program_leaves (Err k) t lines old = old

-- the call that a line makes, if it does, and those that lines make
abbrev pub calls_in : List ℕ → List (Call Minutes)
calls_in line = option_map_or (λ c. c ∷ []) (option_and_then call_of (command_of line)) []

abbrev pub calls_of : List (List ℕ) → List (Call Minutes)
calls_of [] = []
calls_of (line ∷ lines) = calls_in line ++ calls_of lines

-- lines are answered as the library reckons
pub record Reckons (m : Meaning Minutes) (t : Lengths) (lines : List (List ℕ)) : Type 0 where
  -- what they leave is reckoned from their calls alone
  pub left : after_all m lines ≡ reckon minutes_ops m (calls_of lines)
  -- each is answered of what is reckoned from the calls before it
  pub each : (k : ℕ) → k < length lines
      → slice_index_or (answers_of m t lines) k (Err 16) ≡ obeyed (reckon minutes_ops m (calls_of (take k lines))) t (slice_index_or lines k [])

-- whatever the stack means at first, if it is made
unfoldable pub ReckonsFrom : Result (Meaning Minutes) ℕ → Lengths → List (List ℕ) → Type 0
ReckonsFrom first t lines = (m : Meaning Minutes) → first ≡ Ok m → Reckons m t lines
