use Rattle.std.proofs.Common.{ℕ, ◌+◌, ◌*◌, ◌<◌, get_or}
use Rattle.graphs.specs.Searches.{Edge, Marked, Closed, Grown, white}
use Rattle.sorting.proofs.search.+visit_walk.Given as goal

abbrev pub decreases-visit : goal.decreases-visit
decreases-visit l = 2 * white l.marks.now

abbrev pub decreases-walk : goal.decreases-walk
decreases-walk l = 2 * white l.marks.now + 1

abbrev pub invariant-walk-loop-target : goal.invariant-walk-loop-target
invariant-walk-loop-target l = record {
  grown : Grown (Edge l.starts l.targets) l.p l.initial.marks l.initial.order l.initial.left l.marks l.order l.left;
  closed : Closed (Edge l.starts l.targets) l.marks l.order l.left;
  walked : (j : ℕ) → j < l.target-index → Marked l.marks (get_or l.row j 0);
}
