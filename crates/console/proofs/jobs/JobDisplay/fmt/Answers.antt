use Rattle.std.proofs.Common.{rules, sym}
use Rattle.std.proofs.Output.{has_written_append, has_written_of_eq, has_written_to_eq}
use Rattle.console.proofs.Texts.{wait_told, wait_passed}
use Rattle.console.proofs.jobs.JobDisplay.fmt.Goals.{then-byte-eq2+in_ok-write-2, else-byte-eq2}
use Rattle.console.proofs.jobs.JobDisplay.fmt.Goals as goal

pub loop-job-preserved : goal.loop-job-preserved
loop-job-preserved g c = λ p.
    let row = c.args.self.now.row.now in
    elim c.if-byte-eq2.branch [
      | then-byte-eq2+in_ok-write-2 w ↦ has_written_of_eq _ _ _ _ _ (sym (wait_told row c.loop-job.job-counter w.if-byte-eq2.true))
          (has_written_append _ _ _ _ _ _ (c.loop-job.invariant p) (search rules))
      | else-byte-eq2 w ↦ has_written_of_eq _ _ _ _ _ (sym (wait_passed row c.loop-job.job-counter w.if-byte-eq2.false))
          (has_written_to_eq _ _ _ _ _ w.f-is (c.loop-job.invariant p))
    ]
