use Rattle.tables.proofs.Settling.{Swept}
use Rattle.closing.proofs.rounds.settle.Given as goal

abbrev pub invariant-loop-u : goal.invariant-loop-u
invariant-loop-u g l = Swept g.K.Label.ops l.initial.cells l.initial.found l.cells l.changed l.found l.u l.moved
