use Rattle.std.proofs.Common.{arith}
use Rattle.graphs.proofs.Ordered.{listed_below, closed_more, closed_all}
use Rattle.closing.proofs.order.fill_in_turn.Goals as goal

pub fill_row-requires-clause-inside : goal.fill_row-requires-clause-inside
fill_row-requires-clause-inside g c =
    let m = g.C.Catalogue.meaning c.args.catalogue.now in
    omega (arith, c.of-side.ensures, listed_below c.args.order.now m.n c.loop-p.p-index c.requires.long c.requires.listed (omega arith))

pub loop-p-preserved : goal.loop-p-preserved
loop-p-preserved g c =
    let m = g.C.Catalogue.meaning c.args.catalogue.now in
    closed_more g.C.Label.Label.ops m (g.met.C.Catalogue.sound c.args.catalogue.now) g.met.C.Label.Label.laws c.requires.straight
    c.args.order.now c.requires.long c.requires.listed c.requires.first
    c.loop-p.p-index c.loop-p.cells c.fill_row.new.cells (omega arith) c.loop-p.invariant c.fill_row.ensures

pub returns : goal.returns
returns g c =
    let m = g.C.Catalogue.meaning c.args.catalogue.now in
    closed_all g.C.Label.Label.ops m c.args.order.now c.requires.listed c.loop-p.p-index c.loop-p.cells (omega (arith, c.requires.square)) (omega arith) c.loop-p.invariant
