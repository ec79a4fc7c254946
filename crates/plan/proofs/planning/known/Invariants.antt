use Rattle.std.proofs.Common.{◌≡◌, drop}
use Rattle.plans.specs.Answers.{changed_answer}
use Rattle.plan.proofs.planning.known.Given as goal

abbrev pub invariant-loop-p : goal.invariant-loop-p
invariant-loop-p g l = changed_answer (g.C.Catalogue.meaning l.catalogue) l.changed ≡ changed_answer (g.C.Catalogue.meaning l.catalogue) (drop l.p-index l.changed)
