use Rattle.std.proofs.Common.{◌≡◌, ◌++◌, map, take, drop}
use Rattle.paths.specs.Arcs.{turn}
use Rattle.cases.proofs.reference.Reference.turn.Given as goal

abbrev pub invariant-loop-arc : goal.invariant-loop-arc
invariant-loop-arc g l = l.arc-items ≡ map turn (take l.arc-index l.initial.arc-items) ++ drop l.arc-index l.initial.arc-items
