use Rattle.std.proofs.Common.{◌≡◌, take}
use Rattle.tables.specs.Tables.{relaxed}
use Rattle.closing.proofs.relax.relax_row.Given as goal

abbrev pub invariant-loop-j : goal.invariant-loop-j
invariant-loop-j g l = l.row ≡ relaxed g.K.Label.ops l.first l.initial.row (take l.j l.via)
