use Rattle.std.proofs.Common.{length}
use Rattle.plans.specs.Steps.{Merged}
use Rattle.plan.proofs.merging.merge.Given as goal

abbrev pub invariant-loop-rank : goal.invariant-loop-rank
invariant-loop-rank l = Merged l.flags l.names l.sets (length l.fn.row) l.rank (length l.flags) l.row
