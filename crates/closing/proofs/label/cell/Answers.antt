use Rattle.std.proofs.Common.{◌<◌, length, get_or, Ok, ap, ◌∙◌, arith}
use Rattle.std.proofs.lemmas.List.{get_or_read}
use Rattle.catalogue.specs.Refusals.{on_ok}
use Rattle.tables.proofs.Reading.{row_length}
use Rattle.closing.proofs.label.cell.Goals as goal

pub returns : goal.returns
returns g c =
    let none = g.K.Label.ops.none in
    let row = c.in_ok-cells.cells.now in
    let within : c.args.to < length row = omega (arith, c.requires, row_length c.args.table.now c.args.n c.args.from row c.in_ok-cells.ensures) in
    ap Ok (get_or_read row c.args.to c.index-cells-to.result within c.index-cells-to.is none)
    ∙ ap (on_ok (λ cells. get_or cells c.args.to none)) c.in_ok-cells.ensures
