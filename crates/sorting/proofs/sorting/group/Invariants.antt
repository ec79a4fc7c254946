use Rattle.std.proofs.Common.{◌≡◌, length}
use Rattle.graphs.specs.Searches.{Edge}
use Rattle.graphs.proofs.Grouping.{Grouping}
use Rattle.sorting.proofs.sorting.group.Given as goal

abbrev pub invariant-loop-k : goal.invariant-loop-k
invariant-loop-k l = record {
  long : length l.order ≡ length l.initial.order;
  made : Grouping (Edge l.starts l.targets) (length l.initial.marks) l.finished l.marks l.order l.count l.k l.initial.records l.records l.rank;
}
