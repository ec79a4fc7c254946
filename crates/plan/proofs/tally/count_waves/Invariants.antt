use Rattle.plan.proofs.Counting.{Told}
use Rattle.plan.proofs.tally.count_waves.Given as goal

abbrev pub invariant-loop-p : goal.invariant-loop-p
invariant-loop-p l = Told l.records l.p l.waves
