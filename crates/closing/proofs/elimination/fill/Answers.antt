use Rattle.std.proofs.Common.{◌∙◌, subst}
use Rattle.paths.specs.Tables.{cell, Shows, eliminated}
use Rattle.tables.proofs.Closed.{eliminated_is}
use Rattle.closing.proofs.elimination.fill.Goals as goal

pub returns : goal.returns
returns g c =
    let k = g.C.Label.Label in
    let m = g.C.Catalogue.meaning c.args.catalogue.now in
    eliminated_is k.ops m (g.met.C.Catalogue.sound c.args.catalogue.now) g.met.C.Label.Label.laws g.met.C.Label.Label.absorbs
    c.direct.new.cells c.eliminate.new.cells (c.eliminate.auto.cells ∙ c.direct.auto.cells ∙ c.requires.square)
    c.direct.ensures (subst (λ n. Shows k.ops n c.eliminate.new.cells (eliminated k.ops (cell k.ops n c.direct.new.cells) n)) c.of.ensures c.eliminate.ensures)
