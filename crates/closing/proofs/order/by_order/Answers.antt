use Rattle.catalogue.specs.Refusals.{answer}
use Rattle.catalogue.specs.Meanings.{in_force}
use Rattle.paths.proofs.Groups.{grouped}
use Rattle.tables.proofs.Closed.{closure_left}
use Rattle.graphs.proofs.Edges.{ends}
use Rattle.graphs.proofs.OrderAnswers.{loops_told}
use Rattle.closing.proofs.order.by_order.Goals as goal

pub returns-clause-closure : goal.returns-clause-closure
returns-clause-closure g c =
    closure_left g.C.Label.Label.ops (g.C.Catalogue.meaning c.args.catalogue.now) (g.met.C.Catalogue.sound c.args.catalogue.now) g.met.C.Label.Label.laws g.met.C.Label.Label.absorbs
    (answer c.close.result) c.args.table.now c.close.new.table c.close.ensures.leaves

pub returns-clause-grouped : goal.returns-clause-grouped
returns-clause-grouped g c =
    let m = g.C.Catalogue.meaning c.args.catalogue.now in
    grouped (in_force m) m.n (ends m g.C.Label.Label.ops (g.met.C.Catalogue.sound c.args.catalogue.now))

pub returns-clause-loops : goal.returns-clause-loops
returns-clause-loops g c = loops_told g.C.Label.Label.ops (g.C.Catalogue.meaning c.args.catalogue.now) (g.met.C.Catalogue.sound c.args.catalogue.now)
