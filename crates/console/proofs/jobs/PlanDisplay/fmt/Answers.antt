use Rattle.std.proofs.Common.{rules, sym}
use Rattle.std.proofs.Output.{has_written_append, has_written_of_eq}
use Rattle.console.proofs.Texts.{wave_more}
use Rattle.console.proofs.jobs.PlanDisplay.fmt.Goals as goal

pub loop-wave-preserved : goal.loop-wave-preserved
loop-wave-preserved g c = λ p.
    let plan = c.args.self.now in
    has_written_of_eq _ _ _ _ _ (sym (wave_more plan.records.now plan.sets.now plan.n c.loop-wave.wave))
    (has_written_append _ _ _ _ _ _ (c.loop-wave.invariant p) (search rules))
