use Rattle.std.proofs.Common.{◌≡◌, ℕ, ◌<◌, get_or}
use Rattle.graphs.specs.Records.{of}
use Rattle.graphs.specs.Searches.{Marked}
use Rattle.plan.proofs.marking.mark_changed.Given as goal

-- the ranks of the changed packages so far have marks, and no others
abbrev pub invariant-loop-p : goal.invariant-loop-p
invariant-loop-p l = record {
  seeds : (k : ℕ) → k < l.p-index → Marked l.live (of l.records (get_or l.changed k 0)).rank;
  sound : (t : ℕ) → Marked l.live t → (k : ℕ) × (k < l.p-index) × ((of l.records (get_or l.changed k 0)).rank ≡ t);
}
