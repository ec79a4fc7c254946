use Rattle.std.proofs.Common.{◌≡◌, take}
use Rattle.catalogue.specs.Runs.{reckon}
use Rattle.catalogue.proofs.runs.run.Given as goal

abbrev pub invariant-loop-call : goal.invariant-loop-call
invariant-loop-call g l =
    g.C.Catalogue.meaning l.catalogue ≡ reckon g.C.Label.Label.ops (g.C.Catalogue.meaning l.initial.catalogue) (take l.call-index l.calls)
