use Rattle.std.proofs.Common.{length}
use Rattle.plans.specs.Steps.{Between, Built}
use Rattle.plan.specs.Tables.{Leads}
use Rattle.plan.proofs.building.build.Given as goal

abbrev pub invariant-loop-rank : goal.invariant-loop-rank
invariant-loop-rank l = Built (Between (Leads l.condensed) l.live l.names) l.names l.waves l.sets (length l.fn.row) l.rank
