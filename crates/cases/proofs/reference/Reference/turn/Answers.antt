use Rattle.std.proofs.Common.{get_or, set, ap, ◌∙◌}
use Rattle.std.proofs.lemmas.List.Edits.{map_over_more}
use Rattle.paths.specs.Arcs.{turn}
use Rattle.cases.proofs.reference.Reference.turn.Goals as goal

pub loop-arc-preserved : goal.loop-arc-preserved
loop-arc-preserved g c =
    ap (set c.loop-arc.arc-items c.loop-arc.arc-index) c.turned.ensures
    ∙ map_over_more turn c.deref_mut-arc-items.result.now c.loop-arc.arc-items c.loop-arc.arc-index _ c.loop-arc-test.true c.loop-arc.invariant (ap (get_or c.loop-arc.arc-items c.loop-arc.arc-index) c.arc-item.is)
