use Rattle.std.proofs.Common.{ℕ, ◌<◌}
use Rattle.graphs.specs.Searches.{Edge, Marked, Whole}
use Rattle.sorting.proofs.search.finish.Given as goal

abbrev pub invariant-loop-p : goal.invariant-loop-p
invariant-loop-p l = record {
  whole : Whole (Edge l.starts l.targets) l.marks l.order l.count;
  taken : (v : ℕ) → v < l.p → Marked l.marks v;
}
