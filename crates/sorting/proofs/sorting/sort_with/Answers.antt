use Rattle.std.proofs.Common.{length, arith}
use Rattle.graphs.proofs.Sorts.{turned_graph, graph, finished, counted, sorted}
use Rattle.sorting.proofs.sorting.sort_with.Goals as goal

pub finish-requires-clause-rows : goal.finish-requires-clause-rows
finish-requires-clause-rows g c =
    turned_graph g.C.Label.Label.ops (g.met.C.Catalogue.sound c.args.catalogue.now) c.make_rows.new.starts c.make_rows.new.cells (length c.fill.new.self) (omega arith) c.make_rows.ensures

pub group-requires-clause-rows : goal.group-requires-clause-rows
group-requires-clause-rows g c =
    graph g.C.Label.Label.ops (g.met.C.Catalogue.sound c.args.catalogue.now) c.make_rows-2.new.starts c.make_rows-2.new.cells (length c.fill-2.new.self) (omega arith) c.make_rows-2.ensures

pub group-requires-clause-finished : goal.group-requires-clause-finished
group-requires-clause-finished g c =
    finished g.C.Label.Label.ops (g.met.C.Catalogue.sound c.args.catalogue.now) c.make_rows.new.starts c.make_rows.new.cells c.make_rows-2.new.starts c.make_rows-2.new.cells
    c.make_rows.ensures c.make_rows-2.ensures (length c.fill-2.new.self) (omega arith) c.finish.new.marks c.finish.new.order (length c.fill.new.self) (omega arith) (omega arith)
    (λ v h. c.finish.ensures.all v (omega (arith, h))) c.finish.ensures.whole

pub returns-clause-count : goal.returns-clause-count
returns-clause-count g c =
    counted g.C.Label.Label.ops (g.met.C.Catalogue.sound c.args.catalogue.now) c.make_rows-2.new.starts c.make_rows-2.new.cells c.make_rows-2.ensures (length c.fill-2.new.self) (omega arith)
    c.args.records.now c.group.new.records c.group.result (omega arith) c.group.auto.records c.group.ensures.sorted c.group.ensures.beyond

pub returns-clause-sorted : goal.returns-clause-sorted
returns-clause-sorted g c =
    sorted g.C.Label.Label.ops (g.met.C.Catalogue.sound c.args.catalogue.now) c.make_rows-2.new.starts c.make_rows-2.new.cells c.make_rows-2.ensures (length c.fill-2.new.self) (omega arith)
    c.args.records.now c.group.new.records c.group.result (omega arith) c.group.auto.records c.group.ensures.sorted c.group.ensures.beyond

pub returns-clause-listed : goal.returns-clause-listed
returns-clause-listed g c = λ v h. let l = c.group.ensures.listed v (omega (arith, h)) in (l.0, omega (arith, l.1), l.2)
