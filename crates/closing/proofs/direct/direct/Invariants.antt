use Rattle.paths.specs.Chains.{L}
use Rattle.tables.proofs.InForce.{Along}
use Rattle.closing.proofs.direct.direct.Given as goal

abbrev pub invariant-loop-k : goal.invariant-loop-k
invariant-loop-k g l = Along (g.C.Catalogue.meaning l.catalogue) g.C.Label.Label.ops (g.C.Catalogue.meaning l.catalogue).n (λ arcs. L g.C.Label.Label.ops arcs 1) l.k l.cells
