use Rattle.std.proofs.Common.{◌≤◌}
use Rattle.plans.specs.Steps.{Deep}
use Rattle.plan.proofs.waves.depth.Given as goal

abbrev pub invariant-loop-rank : goal.invariant-loop-rank
invariant-loop-rank l = Deep l.flags l.waves l.rank l.depth × (l.depth ≤ l.rank)
