use Rattle.std.proofs.Common.{◌-◌}
use Rattle.catalogue.specs.Meanings.{in_force}
use Rattle.tables.proofs.Turns.{Turn}
use Rattle.closing.proofs.rounds.fill.Given as goal

abbrev pub invariant-loop-made : goal.invariant-loop-made
invariant-loop-made g l = Turn g.C.Label.Label.ops (in_force (g.C.Catalogue.meaning l.catalogue)) (g.C.Catalogue.meaning l.catalogue).n l.made l.cells l.changed l.found

abbrev pub decreases-loop-made : goal.decreases-loop-made
decreases-loop-made g l = (g.C.Catalogue.meaning l.catalogue).n - l.made
