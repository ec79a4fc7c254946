use Rattle.std.proofs.Common.{◌≡◌, ℕ}
use Rattle.paths.specs.Tables.{cell, Shows, eliminated}
use Rattle.closing.proofs.elimination.eliminate.Given as goal

abbrev pub invariant-loop-k : goal.invariant-loop-k
invariant-loop-k g l =
    let o = g.K.Label.ops in
    (k : ℕ) → k ≡ l.k → Shows o l.side.n l.cells (eliminated o (cell o l.side.n l.initial.cells) k)
