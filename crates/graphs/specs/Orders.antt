-- Closing a table row by row.
use Rattle.std.specs.Prelude.{◌≡◌, ℕ, ◌<◌, cond, List, ◌==◌, slice_index}
use Rattle.labels.specs.Algebra.{Ops}
use Rattle.paths.specs.declared.arc.Arc.{Arc}
use Rattle.paths.specs.Chains.{Mem}
use Rattle.paths.specs.Tables.{before}

module _ {K : Type 0} (o : Ops K) (T : ℕ → ℕ → K) where
  -- nothing, or a way of T
  abbrev pub or_stay : ℕ → ℕ → K
  or_stay i j = o.join (cond (i == j) o.whole o.none) (T i j)

  -- the arc, and then nothing or a way of T
  abbrev pub led : Arc K → ℕ → ℕ → K
  led a i j = cond (a.from == i) (o.extend a.label (or_stay a.to j)) o.none

  -- T, but row p is made of what the arcs lead to
  abbrev pub led_row : List (Arc K) → ℕ → ℕ → ℕ → K
  led_row arcs p i j = cond (i == p) (before o arcs or_stay i j) (T i j)

-- the end of an arc stands in the order before its start
abbrev pub EndsFirst : {K : Type 0} → List (Arc K) → List ℕ → ℕ → Type 0
EndsFirst {K} arcs order n = (j : ℕ) (a : Arc K) → j < n → Mem a arcs → a.from ≡ slice_index order j → (i : ℕ) × (i < j) × (slice_index order i ≡ a.to)
