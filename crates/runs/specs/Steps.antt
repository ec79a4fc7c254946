-- A call of a run, whose changed packages are behind a reference.
use Rattle.std.specs.Prelude.{ℕ, List}
use Rattle.std.specs.Borrow.{Bor}
use Rattle.runs.specs.declared.step.StepFor.{StepFor}

abbrev pub Step : Type 0 → Type 0
Step K = StepFor (Bor (List ℕ)) K
