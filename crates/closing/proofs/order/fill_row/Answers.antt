use Rattle.std.proofs.Common.{◌<◌, length, get_or, ap, ◌∙◌, arith}
use Rattle.std.specs.List.{between}
use Rattle.tables.proofs.InForce.{answered_ok}
use Rattle.graphs.proofs.Ordered.{leaves_row, entered_none, entered_same, entered_more, entered_all}
use Rattle.closing.proofs.order.fill_row.Goals as goal
use Rattle.closing.proofs.order.fill_row.Goals.{in-Some, in_default}

pub loop-k-init : goal.loop-k-init
loop-k-init g c =
    entered_none g.C.Label.Label.ops g.met.C.Label.Label.laws (g.C.Catalogue.meaning c.args.catalogue.now) c.args.p c.args.cells.now
    c.args.side.n c.clear_row.new.cells (get_or c.args.starts.now c.args.p 0) c.args.entries.now c.requires.side c.clear_row.ensures

pub join_arc-requires-clause-from : goal.join_arc-requires-clause-from
join_arc-requires-clause-from g c =
    let ok = answered_ok (g.C.Catalogue.meaning c.args.catalogue.now) g.C.Label.Label.ops (get_or c.args.entries.now c.loop-k.k 0) c.in-Some.arc (g.met.C.Catalogue.sound c.args.catalogue.now) c.in-Some.ensures in
    omega (arith, c.requires.side, ok.from_in)

pub join_arc-requires-clause-to : goal.join_arc-requires-clause-to
join_arc-requires-clause-to g c =
    let ok = answered_ok (g.C.Catalogue.meaning c.args.catalogue.now) g.C.Label.Label.ops (get_or c.args.entries.now c.loop-k.k 0) c.in-Some.arc (g.met.C.Catalogue.sound c.args.catalogue.now) c.in-Some.ensures in
    omega (arith, c.requires.side, ok.to_in)

pub join_arc-requires-clause-apart : goal.join_arc-requires-clause-apart
join_arc-requires-clause-apart g c =
    (answered_ok (g.C.Catalogue.meaning c.args.catalogue.now) g.C.Label.Label.ops (get_or c.args.entries.now c.loop-k.k 0) c.in-Some.arc (g.met.C.Catalogue.sound c.args.catalogue.now) c.in-Some.ensures).apart

pub loop-k-preserved : goal.loop-k-preserved
loop-k-preserved g c =
    let o = g.C.Label.Label.ops in
    let m = g.C.Catalogue.meaning c.args.catalogue.now in
    let laws = g.met.C.Label.Label.laws in
    let starts = c.args.starts.now in
    let entries = c.args.entries.now in
    let p = c.args.p in
    let k = c.loop-k.k in
    let l = c.loop-k in
    let inside : p < m.n = omega (arith, c.requires.side, c.requires.inside) in
    let within : k < length entries = omega (arith, c.requires.rows.within p inside) in
    elim c.match-arc_at.branch [
      | in-Some w ↦ entered_more o laws m p c.args.cells.now l.cells c.match-arc_at.cells (get_or starts p 0) k entries l.invariant l.auto.k within
          c.args.side.n w.in-Some.arc w.join_arc.new.cells c.requires.side w.in-Some.ensures
          (leaves_row m starts entries c.requires.rows p k w.in-Some.arc l.auto.k c.loop-k-test.true w.in-Some.ensures)
          (answered_ok m o (get_or entries k 0) w.in-Some.arc (g.met.C.Catalogue.sound c.args.catalogue.now) w.in-Some.ensures)
          w.cells-is w.join_arc.ensures
      | in_default w ↦ entered_same o laws m p c.args.cells.now l.cells c.match-arc_at.cells (get_or starts p 0) k entries l.invariant l.auto.k within w.in_default.ensures w.cells-is
    ]

pub returns : goal.returns
returns g c =
    let o = g.C.Label.Label.ops in
    let m = g.C.Catalogue.meaning c.args.catalogue.now in
    let p = c.args.p in
    let inside : p < m.n = omega (arith, c.requires.side, c.requires.inside) in
    entered_all o g.met.C.Label.Label.laws m p c.args.cells.now c.loop-k.cells (between (get_or c.args.starts.now p 0) c.loop-k.k c.args.entries.now) c.loop-k.invariant
    (ap (λ e. between (get_or c.args.starts.now p 0) e c.args.entries.now) (omega (arith, c.loop-k.auto.k-end (c.requires.rows.rising p inside))) ∙ c.requires.rows.rows p inside)
