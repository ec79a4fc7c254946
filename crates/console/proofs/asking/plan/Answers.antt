use Rattle.std.proofs.Common.{length, min, is_ok, sym, ap, ◌∙◌}
use Rattle.plans.specs.Answers.{plan_answer, plan_leaves}
use Rattle.console.proofs.Shown.{outcome_told, taken_shown}
use Rattle.console.proofs.asking.plan.Goals as goal

pub returns-clause-shown : goal.returns-clause-shown
returns-clause-shown g c = λ told is.
    let m = g.C.Catalogue.meaning c.args.catalogue.now in
    let old = c.args.records.now in
    let before = c.args.sets.now in
    let changed = c.args.changed.now in
    let cells = min (length before) (length before) in
    let some = min (length old) (length old) in
    let few = min (length c.args.words.now) (length c.args.words.now) in
    let called = c.ask_one.ensures.promise.reckoned_from_the_making_and_the_calls in
    let taken = outcome_told (plan_answer m changed cells some few) told (sym called.answers ∙ is) in
    taken_shown g.C.Label.Label.ops m (g.met.C.Catalogue.sound c.args.catalogue.now) changed old c.ask_one.new.records before c.ask_one.new.sets cells some few told
    taken
    (called.sets ∙ ap (λ r. plan_leaves m changed r before) (sym called.answers ∙ is))
    (called.files.planned (ap is_ok taken))
