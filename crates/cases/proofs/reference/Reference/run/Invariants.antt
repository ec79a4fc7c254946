use Rattle.cases.specs.References.{Kept}
use Rattle.cases.proofs.reference.Reference.run.Given as goal

abbrev pub invariant-loop-call : goal.invariant-loop-call
invariant-loop-call g l = Kept l.initial.self l.self
