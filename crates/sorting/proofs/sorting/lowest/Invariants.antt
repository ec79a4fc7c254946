use Rattle.std.proofs.Common.{◌≡◌, ℕ, ◌<◌, ◌≤◌, length, get_or}
use Rattle.sorting.proofs.sorting.lowest.Given as goal

abbrev pub invariant-loop-p : goal.invariant-loop-p
invariant-loop-p l = record {
  found : (j : ℕ) × (j < length l.packages) × (get_or l.packages j 0 ≡ l.least);
  least : (j : ℕ) → j < l.p-index → l.least ≤ get_or l.packages j 0;
}
