use Rattle.std.proofs.Common.{ap, ◌∙◌}
use Rattle.catalogue.specs.Runs.{step}
use Rattle.catalogue.proofs.Reckoning.{reckon_more}
use Rattle.catalogue.proofs.runs.run.Goals as goal

pub loop-call-preserved : goal.loop-call-preserved
loop-call-preserved g c =
    let o = g.C.Label.Label.ops in
    let m = g.C.Catalogue.meaning c.args.catalogue.now in
    let x = c.call-item.result in
    let e = c.make_call.ensures in
    e.reckoned ∙ ap (λ k. step o k x) c.loop-call.invariant ∙ reckon_more o m c.args.calls.now c.loop-call.call-index x c.loop-call-test.true c.call-item.is
