use Rattle.std.specs.Fmt.{HasWritten, IsPlainFormatter}
use Rattle.console.specs.Jobs.{fields_of, awaited}
use Rattle.console.proofs.jobs.JobDisplay.fmt.Given as goal

abbrev pub invariant-loop-job : goal.invariant-loop-job
invariant-loop-job g l =
    IsPlainFormatter l.initial.f → HasWritten g.W.Write.write_str_gives l.initial.f (fields_of (awaited l.self.row.now) l.job-counter) l.f
