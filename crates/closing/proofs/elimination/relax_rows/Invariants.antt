use Rattle.std.proofs.Common.{◌≡◌, ℕ, ◌<◌, get_or}
use Rattle.paths.specs.Tables.{cell}
use Rattle.tables.specs.Tables.{over_column}
use Rattle.tables.proofs.Stages.{rows}
use Rattle.closing.proofs.elimination.relax_rows.Given as goal

abbrev pub invariant-loop-i : goal.invariant-loop-i
invariant-loop-i g l =
    let o = g.K.Label.ops in
    let T = cell o l.n l.initial.rows in
    (i j : ℕ) → j < l.n → cell o l.n l.rows i j ≡ rows l.i (over_column o l.k (λ j. get_or l.via j o.none) T) T i j
