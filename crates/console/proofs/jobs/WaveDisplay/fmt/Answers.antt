use Rattle.std.proofs.Common.{rules, sym}
use Rattle.std.proofs.Output.{has_written_append, has_written_of_eq, has_written_to_eq}
use Rattle.console.proofs.Texts.{job_told, none_told}
use Rattle.console.proofs.jobs.WaveDisplay.fmt.Goals.{in-Some+in_ok-writeln, in_default}
use Rattle.console.proofs.jobs.WaveDisplay.fmt.Goals as goal

pub loop-name-preserved : goal.loop-name-preserved
loop-name-preserved g c = λ p.
    let plan = c.args.self.now.plan in
    let w = c.args.self.now.wave in
    let k = c.loop-name.name in
    elim c.match-job_at.branch [
      | in-Some+in_ok-writeln v ↦ has_written_of_eq _ _ _ _ _ (sym (job_told plan.records.now plan.sets.now plan.n w k (v.in-Some.job.name, v.in-Some.job.wave, v.in-Some.job.row.now) v.in-Some.ensures))
          (has_written_append _ _ _ _ _ _ (c.loop-name.invariant p) (search rules))
      | in_default v ↦ has_written_of_eq _ _ _ _ _ (sym (none_told plan.records.now plan.sets.now plan.n w k v.in_default.ensures))
          (has_written_to_eq _ _ _ _ _ v.f-is (c.loop-name.invariant p))
    ]
