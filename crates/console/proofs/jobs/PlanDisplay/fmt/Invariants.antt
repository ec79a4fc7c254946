use Rattle.std.specs.Fmt.{HasWritten, IsPlainFormatter}
use Rattle.console.specs.Jobs.{waves_text}
use Rattle.console.proofs.jobs.PlanDisplay.fmt.Given as goal

abbrev pub invariant-loop-wave : goal.invariant-loop-wave
invariant-loop-wave g l =
    let p = l.self in
    IsPlainFormatter l.initial.f → HasWritten g.W.Write.write_str_gives l.initial.f (waves_text p.records.now p.sets.now p.n l.wave) l.f
