use Rattle.tables.proofs.Closed.{closure_left}
use Rattle.catalogue.specs.Refusals.{answer}
use Rattle.closing.proofs.elimination.by_elimination.Goals as goal

pub returns-clause-closure : goal.returns-clause-closure
returns-clause-closure g c =
    closure_left g.C.Label.Label.ops (g.C.Catalogue.meaning c.args.catalogue.now) (g.met.C.Catalogue.sound c.args.catalogue.now) g.met.C.Label.Label.laws g.met.C.Label.Label.absorbs
    (answer c.close.result) c.args.table.now c.close.new.table c.close.ensures.leaves
