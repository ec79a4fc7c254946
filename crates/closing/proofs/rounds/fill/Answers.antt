use Rattle.std.proofs.Common.{◌∙◌, arith}
use Rattle.catalogue.specs.Meanings.{in_force}
use Rattle.tables.proofs.Closed.{rounds_are_made}
use Rattle.tables.proofs.InForce.{in_force_to}
use Rattle.tables.proofs.Turns.{turn_more, last}
use Rattle.closing.proofs.rounds.fill.Goals as goal

pub returns-then-not-settle : goal.returns-then-not-settle
returns-then-not-settle g c =
    let o = g.C.Label.Label.ops in
    let met = g.met.C.Label.Label in
    let m = g.C.Catalogue.meaning c.args.catalogue.now in
    let sound = g.met.C.Catalogue.sound c.args.catalogue.now in
    let t = c.loop-made in
    let s = c.settle in
    let made = rounds_are_made o m sound met.laws met.absorbs met.exact s.new.cells c.one_more-made.result
    (s.auto.cells ∙ t.auto.cells ∙ c.direct.auto.cells ∙ c.requires.square)
    (last o met.laws (in_force m) m.n met.absorbs (in_force_to m o sound) t.made t.cells t.changed t.found c.spread.new.found
    s.new.cells s.new.changed s.new.found s.result t.invariant c.spread.ensures (omega arith) s.ensures c.one_more-made.result c.one_more-made.ensures c.if-not-settle.true) in
    record { table = made.0; count = made.1 }

pub loop-made-preserved : goal.loop-made-preserved
loop-made-preserved g c =
    let o = g.C.Label.Label.ops in
    let met = g.met.C.Label.Label in
    let m = g.C.Catalogue.meaning c.args.catalogue.now in
    let t = c.loop-made in
    let s = c.settle in
    turn_more o met.laws (in_force m) m.n met.absorbs (in_force_to m o (g.met.C.Catalogue.sound c.args.catalogue.now)) t.made t.cells t.changed t.found c.spread.new.found
    s.new.cells s.new.changed s.new.found s.result t.invariant c.spread.ensures (omega arith) s.ensures c.one_more-made.result c.one_more-made.ensures c.if-not-settle.false
