-- The table of single arcs, arc by arc.
use Rattle.std.proofs.Common.{◌≡◌, ℕ, ◌+◌, ◌*◌, ◌<◌, Bool, true, false, cond, eqb, ◌≢◌, List, [], ◌∷◌, ◌++◌, length, get_or, set, Some, sym, refl, ap, ◌∙◌, subst, ap₂, get_or-set_other, get_or-set_same}
use native.Mathlib.Decide.{ℕ_discrete}
use Rattle.std.proofs.lemmas.Nat.{mul-add-lt, same_from_place}
use Rattle.labels.specs.Algebra.{Ops, Laws}
use Rattle.paths.specs.declared.arc.Arc.{Arc}
use Rattle.paths.specs.Chains.{join_over, L}
use Rattle.paths.specs.Tables.{cell, Shows}
use Rattle.paths.proofs.Joins.{none_join, over_append, over_cong}
use Rattle.paths.proofs.Steps.{L_step}
use Rattle.catalogue.specs.Meanings.{Meaning, Sound}
use Rattle.catalogue.specs.Calls.{arc_at}
use Rattle.tables.proofs.Choosing.{here, elsewhere}
use Rattle.tables.proofs.InForce.{Along, answered_in, along_some}

-- what one arc adds at a pair
abbrev pub alone : {K : Type 0} → Ops K → Arc K → ℕ → ℕ → K
alone o a i j = cond (eqb a.from i) (cond (eqb a.to j) a.label o.none) o.none

module _ {K : Type 0} (o : Ops K) (laws : Laws o) where
  plain : (b d : Bool) (l : K) → cond b (o.extend l (o.join (cond d o.whole o.none) o.none)) o.none ≡ cond b (cond d l o.none) o.none
  plain true true l = ap (o.extend l) (none_join o laws o.whole) ∙ laws.whole_right l
  plain true false l = ap (o.extend l) (none_join o laws o.none) ∙ laws.none_right l
  plain false d l = refl

  singles : (arcs : List (Arc K)) (i j : ℕ) → L o arcs 1 i j ≡ join_over o (λ a. alone o a i j) arcs
  singles arcs i j = L_step o laws arcs 0 i j ∙ over_cong o laws _ _ arcs (λ a _. plain (eqb a.from i) (eqb a.to j) a.label)

  singles_push : (arcs : List (Arc K)) (a : Arc K) (i j : ℕ) → L o (arcs ++ (a ∷ [])) 1 i j ≡ o.join (L o arcs 1 i j) (alone o a i j)
  singles_push arcs a i j =
      singles (arcs ++ (a ∷ [])) i j ∙ over_append o laws (λ b. alone o b i j) arcs (a ∷ [])
      ∙ ap₂ o.join (sym (singles arcs i j)) (none_join o laws (alone o a i j))

  -- an arc's label joined into the cell of its ends
  pub cell_joined : (n : ℕ) (cells : List K) (a : Arc K) → a.from < n → a.to < n → length cells ≡ n * n
      → Shows o n (set cells (a.from * n + a.to) (o.join (cell o n cells a.from a.to) a.label)) (λ i j. o.join (cell o n cells i j) (alone o a i j))
  cell_joined n cells a hf ht long i j hi hj = go (ℕ_discrete a.from i) (ℕ_discrete a.to j)
    where
      at : ℕ
      at = a.from * n + a.to

      within : at < length cells
      within = subst (λ u. at < u) (sym long) (mul-add-lt a.from n a.to n hf ht)

      value : K
      value = o.join (cell o n cells a.from a.to) a.label

      other : (at ≡ i * n + j → ⊥) → alone o a i j ≡ o.none → cell o n (set cells at value) i j ≡ o.join (cell o n cells i j) (alone o a i j)
      other apart none =
          let ne : (i * n + j) ≢ at = λ e. apart (sym e) in
          rw get_or-set_other (sym (ap (o.join (cell o n cells i j)) none ∙ none_join o laws (cell o n cells i j)))

      go : Dec (a.from ≡ i) → Dec (a.to ≡ j) → cell o n (set cells at value) i j ≡ o.join (cell o n cells i j) (alone o a i j)
      go (yes e) (yes f) =
          let h : at < length cells = within in
          subst (λ k. get_or (set cells at value) k o.none ≡ o.join (cell o n cells i j) (alone o a i j)) (ap₂ (λ p q. p * n + q) e f)
          (rw get_or-set_same (ap₂ o.join (ap₂ (cell o n cells) e f)
          (sym (here a.from i _ _ e ∙ here a.to j _ _ f))))
      go (no e) d = other (λ p. e (same_from_place a.from a.to i j n ht hj p).0)
          (elsewhere a.from i _ _ e)
      go (yes e) (no f) = other (λ p. f (same_from_place a.from a.to i j n ht hj p).1)
          (here a.from i _ _ e ∙ elsewhere a.to j _ _ f)

  -- L(1) of one place more
  module _ (m : Meaning K) (k : ℕ) (cells : List K) (along : Along m o m.n (λ arcs. L o arcs 1) k cells) where
    pub singles_more : Sound o m → length cells ≡ m.n * m.n → (a : Arc K) → Some a ≡ arc_at m k → (at : ℕ) → at ≡ a.from * m.n + a.to
        → (after next : List K) → after ≡ next → next ≡ set cells at (o.join (get_or cells at o.none) a.label) → Along m o m.n (λ arcs. L o arcs 1) (k + 1) after
    singles_more sound long a e at is after next same made =
        let n = m.n in
        let inside = answered_in m o n k a sound refl e in
        along_some m o n (λ arcs. L o arcs 1) (alone o) singles_push k cells along a e after
        (subst (λ xs. Shows o n xs (λ i j. o.join (cell o n cells i j) (alone o a i j))) (sym (same ∙ made ∙ ap (λ u. set cells u (o.join (get_or cells u o.none) a.label)) is))
        (cell_joined n cells a inside.from_in inside.to_in long))
