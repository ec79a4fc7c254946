use Rattle.catalogue.specs.Refusals.{answer}
use Rattle.runs.specs.Runs.{memory}
use Rattle.runs.proofs.Stepping.{same_sizes}
use Rattle.runs.proofs.Asked.{told}
use Rattle.runs.proofs.asking.tell.Goals as goal

pub returns-clause-tells : goal.returns-clause-tells
returns-clause-tells g c =
    let o = g.C.Label.Label.ops in
    let x = c.args.catalogue.now in
    let old = memory c.args.table.now c.args.changed.now c.args.found.now c.args.records.now c.args.words.now c.args.sets.now in
    let made = c.make_call.new in
    let new = memory made.table made.changed made.found made.records made.words made.sets in
    let said = c.make_call.ensures in
    let kept = c.make_call.auto in
    told o g.met.C.Label.Label.laws g.met.C.Label.Label.absorbs (g.C.Catalogue.meaning x) c.args.question.now old new (answer c.make_call.result) (g.met.C.Catalogue.sound x)
    (record {
      answers = said.answers;
      table = said.leaves;
      sets = said.sets;
      files = said.files;
      spares = said.spares;
      as_long = same_sizes new old kept.table kept.changed kept.found kept.records kept.words kept.sets;
    })
