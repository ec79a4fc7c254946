use Rattle.catalogue.specs.Refusals.{answer}
use Rattle.runs.proofs.Filing.{sort_filed}
use Rattle.runs.proofs.running.sort_within.Goals as goal

pub returns : goal.returns
returns g c =
    let x = c.args.catalogue.now in
    let told = c.sort.ensures in
    let whole = sort_filed g.C.Label.Label.ops (g.C.Catalogue.meaning x) (g.met.C.Catalogue.sound x) (answer c.sort.result) c.min-in_records.result c.min-in_words.result
    c.args.room.records c.args.room.words c.args.records.now c.sort.new.records c.args.words.now c.sort.new.words c.min-in_records.ensures c.min-in_words.ensures c.sort.auto.records
    told.answers told.sorts told.keeps in
    record { answers = whole.0; files = whole.1 }
