use Rattle.std.proofs.Common.{◌≡◌, ℕ, ◌<◌, get_or}
use Rattle.graphs.specs.Records.{of}
use Rattle.sorting.proofs.sorting.enter_group.Given as goal

abbrev pub invariant-loop-p : goal.invariant-loop-p
invariant-loop-p l = record {
  entered : (j : ℕ) → j < l.p-index → of l.records (get_or l.packages j 0) ≡ l.shared;
  others : (v : ℕ) → ((j : ℕ) → j < l.p-index → get_or l.packages j 0 ≡ v → ⊥) → of l.records v ≡ of l.initial.records v;
}
