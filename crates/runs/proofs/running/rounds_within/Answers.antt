use Rattle.catalogue.specs.Refusals.{answer}
use Rattle.tables.proofs.Parts.{part_kept, rounds_part}
use Rattle.runs.proofs.running.rounds_within.Goals as goal

pub returns : goal.returns
returns g c =
    let told = c.by_rounds.ensures in
    let whole = rounds_part g.C.Label.Label.ops (g.C.Catalogue.meaning c.args.catalogue.now) (answer c.by_rounds.result)
    c.min-in_table.result c.min-in_changed.result c.min-in_found.result c.args.cells c.args.table.now c.args.changed.now c.args.found.now
    c.by_rounds.new.table c.min-in_table.ensures c.min-in_changed.ensures c.min-in_found.ensures told.answers told.leaves in
    record {
      answers = whole.0;
      leaves = whole.1;
      spares = λ refused.
          let kept = told.spares refused in
          (part_kept c.min-in_changed.result c.args.changed.now _ kept.0, part_kept c.min-in_found.result c.args.found.now _ kept.1);
    }
