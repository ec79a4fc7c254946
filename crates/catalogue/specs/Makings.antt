-- How a stack is made, and what it means at first.
use Rattle.std.specs.Prelude.{ℕ, List, [], Option, Result}
use Rattle.labels.specs.Algebra.{Ops}
use Rattle.catalogue.specs.Refusals.{on_ok}
use Rattle.catalogue.specs.Meanings.{Meaning}
use Rattle.catalogue.specs.Ledgers.{ledger_made}
use Rattle.catalogue.specs.SheetMeanings.{sheet_made}
use Rattle.catalogue.specs.Turns.{turned}
use Rattle.catalogue.specs.Holds.{held_over}

pub data Making : Type 0 where
  -- n and the number of the array's records
  ledger_of : ℕ → ℕ → Making
  -- the bytes
  sheet_of : List ℕ → Making
  -- the layers, over what was made below
  turned_over : Making → Making
  holding_over : Making → Making

-- what the stack means once made, or the number of the refusal
abbrev pub first_meaning : {L : Type 0} → Ops L → (ℕ → Option L) → Making → Result (Meaning L) ℕ
first_meaning o named (ledger_of n records) = ledger_made n records
first_meaning o named (sheet_of bytes) = sheet_made named o.none bytes
first_meaning o named (turned_over below) = on_ok turned (first_meaning o named below)
first_meaning o named (holding_over below) = on_ok (held_over []) (first_meaning o named below)
