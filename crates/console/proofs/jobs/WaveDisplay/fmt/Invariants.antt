use Rattle.std.specs.Fmt.{HasWritten, IsPlainFormatter}
use Rattle.console.specs.Jobs.{wave_text}
use Rattle.console.proofs.jobs.WaveDisplay.fmt.Given as goal

abbrev pub invariant-loop-name : goal.invariant-loop-name
invariant-loop-name g l =
    let p = l.self.plan in
    IsPlainFormatter l.initial.f → HasWritten g.W.Write.write_str_gives l.initial.f (wave_text p.records.now p.sets.now p.n l.self.wave l.name) l.f
