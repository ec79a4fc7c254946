use Rattle.std.proofs.Common.{ap, ◌∙◌, arith}
use Rattle.paths.specs.Tables.{cell}
use Rattle.tables.specs.Tables.{row, put_row, relaxed}
use Rattle.tables.proofs.InForce.{along_none}
use Rattle.tables.proofs.Turns.{led, led_more}
use Rattle.closing.proofs.rounds.spread.Goals as goal
use Rattle.closing.proofs.rounds.spread.Goals.{in-Some, in_default}

pub loop-k-preserved : goal.loop-k-preserved
loop-k-preserved g c =
    let o = g.C.Label.Label.ops in
    let m = g.C.Catalogue.meaning c.args.catalogue.now in
    let n = m.n in
    let k = c.loop-k.k in
    let S = cell o n c.args.found.now in
    let changed = c.args.changed.now in
    let found = c.loop-k.found in
    elim c.match-arc_at.branch [
      | in-Some w ↦ led_more o g.met.C.Label.Label.laws m k S changed found c.loop-k.invariant (g.met.C.Catalogue.sound c.args.catalogue.now) c.requires.changed (omega (arith, c.loop-k.auto.found, c.requires.found))
          w.in-Some.arc w.in-Some.ensures c.match-arc_at.found w.follow.new.found w.found-is
          (w.follow.ensures ∙ ap (λ n. put_row n found w.in-Some.arc.from (relaxed o w.in-Some.arc.label (row n found w.in-Some.arc.from) (row n changed w.in-Some.arc.to))) c.of-side.ensures)
      | in_default w ↦ along_none m o n (led o S (cell o n changed)) k found c.match-arc_at.found c.loop-k.invariant w.in_default.ensures w.found-is
    ]
