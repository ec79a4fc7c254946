use Rattle.std.proofs.Common.{sym, ◌∙◌}
use Rattle.tables.proofs.Reading.{label_read}
use Rattle.console.proofs.asking.label.Goals as goal

pub returns-clause-answers : goal.returns-clause-answers
returns-clause-answers g c =
    let told = c.in_ok-close.ensures in
    let n = c.n-n in
    c.cell.ensures ∙ label_read g.C.Label.Label.ops (g.C.Catalogue.meaning c.args.catalogue.now) (g.met.C.Catalogue.sound c.args.catalogue.now) n.result c.args.from c.args.to n.ensures
    (sym c.either_outside.ensures ∙ c.if-either_outside.false) c.args.table.now c.close.new.table told.answers told.table
