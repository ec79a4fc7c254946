use Rattle.catalogue.specs.Refusals.{answer}
use Rattle.runs.proofs.Filing.{order_filed}
use Rattle.runs.proofs.running.order_within.Goals as goal

pub returns : goal.returns
returns g c =
    let x = c.args.catalogue.now in
    let told = c.by_order.ensures in
    let whole = order_filed g.C.Label.Label.ops (g.C.Catalogue.meaning x) (g.met.C.Catalogue.sound x) (answer c.by_order.result) c.min-in_table.result c.min-in_records.result c.min-in_words.result
    c.args.cells c.args.room.records c.args.room.words c.args.table.now c.by_order.new.table c.args.records.now c.by_order.new.records c.args.words.now c.by_order.new.words
    c.min-in_table.ensures c.min-in_records.ensures c.min-in_words.ensures c.by_order.auto.records
    told.answers told.leaves told.sorts told.keeps in
    record { answers = whole.0; leaves = whole.1; files = whole.2 }
