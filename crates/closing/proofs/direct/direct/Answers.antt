use Rattle.std.proofs.Common.{◌+◌, ◌*◌, ap, ◌∙◌, arith}
use Rattle.paths.specs.Chains.{L}
use Rattle.tables.proofs.InForce.{along_none}
use Rattle.tables.proofs.Singles.{singles_more}
use Rattle.closing.proofs.direct.direct.Goals as goal
use Rattle.closing.proofs.direct.direct.Goals.{in-Some, in_default}

pub loop-k-preserved : goal.loop-k-preserved
loop-k-preserved g c =
    let o = g.C.Label.Label.ops in
    let m = g.C.Catalogue.meaning c.args.catalogue.now in
    let n = m.n in
    let k = c.loop-k.k in
    let cells = c.loop-k.cells in
    elim c.match-arc_at.branch [
      | in-Some w ↦ singles_more o g.met.C.Label.Label.laws m k cells c.loop-k.invariant (g.met.C.Catalogue.sound c.args.catalogue.now) (omega (arith, c.loop-k.auto.cells, c.clear.auto.cells, c.requires.square))
          w.in-Some.arc w.in-Some.ensures w.place.result (w.place.ensures.is ∙ ap (λ n. w.in-Some.arc.from * n + w.in-Some.arc.to) c.of-side.ensures) c.match-arc_at.cells w.join_to.new.cells w.cells-is w.join_to.ensures
      | in_default w ↦ along_none m o n (λ arcs. L o arcs 1) k cells c.match-arc_at.cells c.loop-k.invariant w.in_default.ensures w.cells-is
    ]
