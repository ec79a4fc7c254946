use Rattle.paths.specs.Tables.{cell}
use Rattle.tables.proofs.InForce.{Along}
use Rattle.tables.proofs.Turns.{led}
use Rattle.closing.proofs.rounds.spread.Given as goal

abbrev pub invariant-loop-k : goal.invariant-loop-k
invariant-loop-k g l = let o = g.C.Label.Label.ops in let m = g.C.Catalogue.meaning l.catalogue in Along m o m.n (led o (cell o m.n l.initial.found) (cell o m.n l.changed)) l.k l.found
