-- n packages eliminated from L(1) make L(n).
use Rattle.std.proofs.Common.{◌≡◌, ℕ, zero, suc, ◌<◌, ◌≤◌, List, ◌∙◌, ap₂, arith}
use Rattle.labels.specs.Algebra.{Ops, Laws, Absorbs}
use Rattle.paths.specs.Chains.{Arc, Mem, L}
use Rattle.paths.specs.Tables.{cell, Shows, eliminated}
use Rattle.paths.proofs.Ways.{Stage, stage_start, stage_next, stage_end}

module _ {K : Type 0} (o : Ops K) where
  eliminated_cong : (n : ℕ) (T U : ℕ → ℕ → K) → ((i j : ℕ) → i < n → j < n → T i j ≡ U i j)
      → (k : ℕ) → k ≤ n → (i j : ℕ) → i < n → j < n → eliminated o T k i j ≡ eliminated o U k i j
  eliminated_cong n T U same zero le i j hi hj = same i j hi hj
  eliminated_cong n T U same (suc k) le i j hi hj =
      let at : (p q : ℕ) → p < n → q < n → eliminated o T k p q ≡ eliminated o U k p q = eliminated_cong n T U same k (omega arith) in
      ap₂ o.join (at i j hi hj) (ap₂ o.extend (at i k hi le) (at k j le hj))

  module _ (laws : Laws o) (absorbs : Absorbs o) (arcs : List (Arc K)) where
    stages : (k : ℕ) → Stage o arcs k (eliminated o (L o arcs 1) k)
    stages zero = stage_start o laws absorbs arcs
    stages (suc k) = stage_next o laws absorbs arcs k (eliminated o (L o arcs 1) k) (stages k)

    pub eliminated_all : (n : ℕ) → ((a : Arc K) → Mem a arcs → a.to < n) → (start cells : List K)
        → Shows o n start (L o arcs 1) → Shows o n cells (eliminated o (cell o n start) n) → Shows o n cells (L o arcs n)
    eliminated_all n ends start cells first made i j hi hj =
        made i j hi hj
        ∙ eliminated_cong n (cell o n start) (L o arcs 1) first n (omega arith) i j hi hj
        ∙ stage_end o laws absorbs arcs n ends (eliminated o (L o arcs 1) n) (stages n) i j
