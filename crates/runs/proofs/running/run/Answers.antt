use Rattle.std.proofs.Common.{ap, ◌∙◌, subst}
use Rattle.runs.specs.Runs.{tabled, set_left, spares_used, FiledBy, memory, sizes}
use Rattle.runs.proofs.Stepping.{same_sizes, reckon_more, tables_more, sets_more, spares_more, files_more}
use Rattle.runs.proofs.running.run.Goals as goal

pub loop-call-preserved : goal.loop-call-preserved
loop-call-preserved g c =
    let o = g.C.Label.Label.ops in
    let m = g.C.Catalogue.meaning c.args.catalogue.now in
    let now = g.C.Catalogue.meaning c.loop-call.catalogue in
    let calls = c.args.calls.now in
    let before = c.loop-call in
    let lent = memory c.args.table.now c.args.changed.now c.args.found.now c.args.records.now c.args.words.now c.args.sets.now in
    let held = memory before.table before.changed before.found before.records before.words before.sets in
    let t = sizes lent in
    let x = c.call-item.result in
    let told = c.make_call.ensures in
    let kept = c.loop-call.auto in
    let i = before.call-index in
    let within = c.loop-call-test.true in
    let is = c.call-item.is in
    let same = same_sizes held lent kept.table kept.changed kept.found kept.records kept.words kept.sets in (
      told.reckoned ∙ reckon_more o m calls i x within is now before.invariant.0,
      told.leaves ∙ ap (λ l. tabled o now l x before.table) same ∙ tables_more o m calls i x within is t now c.args.table.now before.table before.invariant.0 before.invariant.1,
      λ none.
          let parts = spares_more o m calls i x within is t now before.invariant.0 none in
          let here = told.spares (ap (λ l. spares_used o now l x) same ∙ parts.1) in
          let earlier = before.invariant.2 parts.0 in
          (here.0 ∙ earlier.0, here.1 ∙ earlier.1),
      files_more o m calls i x within is t now c.args.records.now before.records c.make_call.new.records c.args.words.now before.words c.make_call.new.words before.invariant.0 before.invariant.3
          (subst (λ l. FiledBy now l x before.records c.make_call.new.records before.words c.make_call.new.words) same told.files),
      told.sets ∙ ap (λ l. set_left o now l x before.sets) same ∙ sets_more o m calls i x within is t now c.args.sets.now before.sets before.invariant.0 before.invariant.4,
    )
