use Rattle.catalogue.specs.Refusals.{answer}
use Rattle.runs.proofs.Filing.{plan_filed}
use Rattle.runs.proofs.running.plan_within.Goals as goal

pub returns : goal.returns
returns g c =
    let x = c.args.catalogue.now in
    let told = c.plan.ensures in
    let whole = plan_filed g.C.Label.Label.ops (g.C.Catalogue.meaning x) (g.met.C.Catalogue.sound x) c.args.packages.now (answer c.plan.result) c.min-in_sets.result c.min-in_records.result c.min-in_words.result
    c.args.cells c.args.room.records c.args.room.words c.args.sets.now c.plan.new.sets c.args.records.now c.plan.new.records c.args.words.now c.plan.new.words
    c.min-in_sets.ensures c.min-in_records.ensures c.min-in_words.ensures c.plan.auto.records
    told.answers told.leaves told.plans told.keeps in
    record { answers = whole.0; leaves = whole.1; files = whole.2 }
