-- Chains of arcs, and L(m), the label of each pair.
use Rattle.std.specs.Prelude.{◌≡◌, ℕ, zero, suc, ◌<◌, cond, ◌⊎◌, List, [], ◌∷◌, ◌++◌, map, ◌==◌}
use Rattle.std.specs.List.{flat_map}
use Rattle.labels.specs.Algebra.{Ops}
pub use Rattle.paths.specs.declared.arc.Arc.{Arc}

abbrev pub Mem : {A : Type 0} → A → List A → Type 0
Mem a [] = ⊥
Mem a (x ∷ xs) = (a ≡ x) ⊎ Mem a xs

-- the join of f over a list; none if it is empty
abbrev pub join_over : {K A : Type 0} → Ops K → (A → K) → List A → K
join_over o f [] = o.none
join_over o f (x ∷ xs) = o.join (f x) (join_over o f xs)

module _ {K : Type 0} where
  -- the lists of exactly m arcs, each starting where the one before ended, that lead from i to j
  abbrev pub chains : List (Arc K) → ℕ → ℕ → ℕ → List (List (Arc K))
  chains arcs zero i j = cond (i == j) ([] ∷ []) []
  chains arcs (suc m) i j = flat_map (λ a. cond (a.from == i) (map (λ c. a ∷ c) (chains arcs m a.to j)) []) arcs

  -- the chains of 1 to m arcs
  abbrev pub chains_upto : List (Arc K) → ℕ → ℕ → ℕ → List (List (Arc K))
  chains_upto arcs zero i j = []
  chains_upto arcs (suc m) i j = chains_upto arcs m i j ++ chains arcs (suc m) i j

  -- a chain's label: its arcs' labels extended in order
  abbrev pub label_of : Ops K → List (Arc K) → K
  label_of o [] = o.whole
  label_of o (a ∷ c) = o.extend a.label (label_of o c)

  -- L(m) of the pair (i, j): the join over its chains of 1 to m arcs
  abbrev pub L : Ops K → List (Arc K) → ℕ → ℕ → ℕ → K
  L o arcs m i j = join_over o (label_of o) (chains_upto arcs m i j)

  -- c leads from i to j by arcs of the list, each starting where the one before ended
  abbrev pub IsChain : List (Arc K) → ℕ → ℕ → List (Arc K) → Type 0
  IsChain arcs i j [] = i ≡ j
  IsChain arcs i j (a ∷ c) = Mem a arcs × (a.from ≡ i) × IsChain arcs a.to j c

  -- L(m + 1) = L(m) for every pair below n
  abbrev pub Still : Ops K → List (Arc K) → ℕ → ℕ → Type 0
  Still o arcs n m = (i j : ℕ) → i < n → j < n → L o arcs (suc m) i j ≡ L o arcs m i j
