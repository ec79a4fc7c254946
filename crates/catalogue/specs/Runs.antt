-- The reckoning: what a list of calls leaves of a meaning.
use Rattle.std.specs.Prelude.{ℕ, List, [], ◌∷◌, Result}
use Rattle.labels.specs.Algebra.{Ops}
use Rattle.catalogue.specs.Meanings.{Meaning}
use Rattle.catalogue.specs.Refusals.{on_ok}
use Rattle.catalogue.specs.Calls.{admit_answer, withdraw_answer, hold_answer, lift_answer, admit_leaves, withdraw_leaves, hold_leaves, lift_leaves}
pub use Rattle.catalogue.specs.declared.call.Call.{Call}
use Rattle.catalogue.specs.declared.call.Call.TheVariants.{Admit, Withdraw, Hold, Lift}

module _ {L : Type 0} (o : Ops L) where
  -- whether a call is taken, or the number of its refusal
  abbrev pub call_answer : Meaning L → Call L → Result (Unit {0}) ℕ
  call_answer m (Admit f t l) = admit_answer o m f t l
  call_answer m (Withdraw f t) = on_ok (λ _. tt) (withdraw_answer m f t)
  call_answer m (Hold p) = hold_answer m p
  call_answer m (Lift p) = lift_answer m p

  -- a call with a check not met leaves the meaning as it is
  abbrev pub step : Meaning L → Call L → Meaning L
  step m (Admit f t l) = admit_leaves o m f t l
  step m (Withdraw f t) = withdraw_leaves m f t
  step m (Hold p) = hold_leaves m p
  step m (Lift p) = lift_leaves m p

  abbrev pub reckon : Meaning L → List (Call L) → Meaning L
  reckon m [] = m
  reckon m (c ∷ cs) = reckon (step m c) cs
