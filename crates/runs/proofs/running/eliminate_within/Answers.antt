use Rattle.catalogue.specs.Refusals.{answer}
use Rattle.tables.proofs.Parts.{elimination_part}
use Rattle.runs.proofs.running.eliminate_within.Goals as goal

pub returns : goal.returns
returns g c =
    let told = c.by_elimination.ensures in
    let whole = elimination_part g.C.Label.Label.ops (g.C.Catalogue.meaning c.args.catalogue.now) (answer c.by_elimination.result)
    c.min-in_table.result c.args.cells c.args.table.now c.by_elimination.new.table c.min-in_table.ensures told.answers told.leaves in
    record { answers = whole.0; leaves = whole.1 }
