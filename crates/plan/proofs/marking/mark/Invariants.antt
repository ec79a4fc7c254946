use Rattle.plans.specs.Steps.{Spreads}
use Rattle.plan.specs.Tables.{Leads, Seed}
use Rattle.plan.proofs.marking.mark.Given as goal

abbrev pub invariant-loop-rank : goal.invariant-loop-rank
invariant-loop-rank l = Spreads (Leads l.condensed) (Seed l.records l.changed) l.rank l.live
