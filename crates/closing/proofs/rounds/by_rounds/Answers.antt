use Rattle.std.proofs.Common.{length}
use Rattle.catalogue.specs.Refusals.{answer}
use Rattle.tables.proofs.Closed.{closure_left, least_answered}
use Rattle.closing.proofs.rounds.by_rounds.Goals as goal

pub returns-clause-closure : goal.returns-clause-closure
returns-clause-closure g c =
    let met = g.met.C.Label.Label in
    closure_left g.C.Label.Label.ops (g.C.Catalogue.meaning c.args.catalogue.now) (g.met.C.Catalogue.sound c.args.catalogue.now) met.laws met.absorbs
    (answer c.close.result) c.args.table.now c.close.new.table c.close.ensures.leaves

pub returns-clause-least : goal.returns-clause-least
returns-clause-least g c =
    let met = g.met.C.Label.Label in
    least_answered g.C.Label.Label.ops (g.C.Catalogue.meaning c.args.catalogue.now) (g.met.C.Catalogue.sound c.args.catalogue.now) met.laws met.absorbs met.exact
    (answer c.close.result) (length c.args.table.now) (length c.args.changed.now) (length c.args.found.now) c.close.ensures.answers
