use Rattle.runs.specs.Runs.{memory}
use Rattle.runs.specs.Promises.{Followed}
use Rattle.runs.proofs.Stepping.{same_sizes}
use Rattle.runs.proofs.asking.follow.Goals as goal

pub returns : goal.returns
unfolding Followed
returns g c =
    let old = memory c.args.table.now c.args.changed.now c.args.found.now c.args.records.now c.args.words.now c.args.sets.now in
    let made = c.run.new in
    let new = memory made.table made.changed made.found made.records made.words made.sets in
    let left = c.run.ensures in
    let kept = c.run.auto in (
      left.reckoned,
      record {
        table = left.leaves;
        sets = left.sets;
        files = left.files;
        spares = left.spares;
        as_long = same_sizes new old kept.table kept.changed kept.found kept.records kept.words kept.sets;
      },
    )
