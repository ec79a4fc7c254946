use Rattle.std.proofs.Common.{◌≡◌, ◌≢◌, ℕ, ◌<◌, get_or}
use Rattle.graphs.specs.Searches.{Marked}
use Rattle.plan.proofs.building.aim.Given as goal

abbrev pub invariant-loop-target : goal.invariant-loop-target
invariant-loop-target l = record {
  sound : (t : ℕ) → Marked l.flags t → (k : ℕ) × (k < l.target-index) × (get_or l.targets k 0 ≡ t) × Marked l.live t × (t ≢ l.own);
  full : (k : ℕ) → k < l.target-index → Marked l.live (get_or l.targets k 0) → get_or l.targets k 0 ≢ l.own → Marked l.flags (get_or l.targets k 0);
}
