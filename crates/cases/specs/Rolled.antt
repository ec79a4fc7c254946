-- Calls on catalogues of n packages, with package numbers of at most n.
use Rattle.std.specs.Prelude.{ℕ, ◌≤◌}
use Rattle.catalogue.specs.declared.call.Call.{Call}
use Rattle.catalogue.specs.declared.call.Call.TheVariants.{Admit, Withdraw, Hold, Lift}

abbrev pub Near : {L : Type 0} → ℕ → Call L → Type 0
Near n (Admit from to label) = (from ≤ n) × (to ≤ n)
Near n (Withdraw from to) = (from ≤ n) × (to ≤ n)
Near n (Hold p) = p ≤ n
Near n (Lift p) = p ≤ n
