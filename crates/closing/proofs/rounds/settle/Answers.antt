use Rattle.std.proofs.Common.{arith}
use Rattle.tables.proofs.Settling.{swept_more}
use Rattle.closing.proofs.rounds.settle.Goals as goal

pub loop-u-preserved : goal.loop-u-preserved
loop-u-preserved g c =
    let l = c.loop-u in
    let f = c.settle_cell-moved in
    let e = f.ensures in
    swept_more g.K.Label.ops g.met.K.Label.laws g.met.K.Label.absorbs g.met.K.Label.exact
    c.args.cells.now c.args.found.now l.cells l.changed l.found l.u c.index-cells-u.result c.index-found-u.result f.new.cell f.new.changed f.new.found l.moved f.result
    (omega arith) (omega arith) (omega arith) l.invariant e.joined e.told e.clean e.moved
