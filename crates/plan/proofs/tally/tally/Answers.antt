use Rattle.std.proofs.Common.{◌∙◌}
use Rattle.plan.proofs.Counted.{tallied}
use Rattle.plan.proofs.tally.tally.Goals as goal

pub counted-requires : goal.counted-requires
counted-requires g c =
    let x = c.args.catalogue.now in
    (tallied g.C.Label.Label.ops (g.C.Catalogue.meaning x) (g.met.C.Catalogue.sound x) c.requires.0 c.args.records.now c.args.sets.now c.requires.1).fit

pub returns : goal.returns
returns g c = λ changed filled.
    let x = c.args.catalogue.now in
    c.counted.ensures ∙ (tallied g.C.Label.Label.ops (g.C.Catalogue.meaning x) (g.met.C.Catalogue.sound x) changed c.args.records.now c.args.sets.now filled).is
