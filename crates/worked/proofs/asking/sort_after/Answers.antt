use Rattle.catalogue.specs.Refusals.{answer}
use Rattle.worked.proofs.After.{sorted_after}
use Rattle.worked.proofs.asking.sort_after.Goals as goal

pub returns-clause-files : goal.returns-clause-files
returns-clause-files g c =
    let x = c.args in
    let ran = c.run in
    let told = c.sort.ensures in
    sorted_after g.C.Label.Label.ops (g.C.Catalogue.meaning ran.new.catalogue) (g.C.Catalogue.meaning x.catalogue.now) x.steps.now ran.ensures.reckoned (answer c.sort.result)
    x.table.now x.changed.now x.found.now x.records.now ran.new.records c.sort.new.records x.words.now ran.new.words c.sort.new.words x.sets.now
    ran.auto.records ran.auto.words ran.ensures.files told.answers told.sorts told.keeps
