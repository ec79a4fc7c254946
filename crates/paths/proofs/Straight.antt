-- Where no chain leads back to its start, every chain is short, and L(n) is made of the rows that the arcs lead to.
use Rattle.std.proofs.Common.{◌≡◌, ℕ, suc, ◌<◌, Bool, true, false, ◌||◌, eqb, List, [], ◌∷◌, ◌++◌, length, sym, refl, ap, ◌∙◌, subst, inl, arith, append-nil, ne_eqb, eqb-true}
use Rattle.std.specs.List.{AllByRecursion, IsDistinct, list_any}
use Rattle.std.proofs.lemmas.List.{length-map}
use Rattle.std.proofs.lemmas.Map.Keys.{IsDistinct-cons}
use Rattle.std.proofs.lemmas.Map.Steps.{length-le_from_distinct_below}
use Rattle.labels.specs.Algebra.{Ops, Laws}
use Rattle.paths.specs.Chains.{Arc, Mem, join_over, chains, chains_upto, label_of, L, IsChain}
use Rattle.paths.specs.Groups.{Chained, Loop}
use Rattle.paths.specs.Tables.{before}
use Rattle.paths.proofs.Cut.{targets, chain_to}
use Rattle.paths.proofs.Members.{of_chains}
use Rattle.paths.proofs.Steps.{stay, L_step}

module _ {K : Type 0} (arcs : List (Arc K)) where
  -- what a chain from i leads to at each of its arcs
  each : (P : ℕ → Type 0) (i j : ℕ) (c : List (Arc K)) → IsChain arcs i j c → ((u : ℕ) → Chained arcs i u → P u) → AllByRecursion P (targets c)
  each P i j [] h f = tt
  each P i j (a ∷ c) h f = (
    f a.to (a ∷ [], omega arith, (h.0, h.1, refl)),
    each P a.to j c h.2 (λ u r. f u (a ∷ r.0, omega arith, (h.0, h.1, r.2))),
  )

  module _ (straight : Loop arcs → ⊥) where
    apart : (i j : ℕ) (c : List (Arc K)) → IsChain arcs i j c → AllByRecursion (λ u. eqb i u ≡ false) (targets c)
    apart i j c h = each (λ u. eqb i u ≡ false) i j c h (λ u r. ne_eqb i u (λ e. straight (i, subst (Chained arcs i) (sym e) r)))

    -- no chain comes to its start, or to another package twice
    distinct : (i j : ℕ) (c : List (Arc K)) → IsChain arcs i j c → IsDistinct eqb (i ∷ targets c)
    unfolding IsDistinct
    distinct i j [] h = IsDistinct-cons eqb i [] tt tt
    distinct i j (a ∷ c) h = IsDistinct-cons eqb i (targets (a ∷ c)) (apart i j (a ∷ c) h) (distinct a.to j c h.2)

    module _ (n : ℕ) (from : (a : Arc K) → Mem a arcs → a.from < n) (to : (a : Arc K) → Mem a arcs → a.to < n) where
      -- a chain has fewer than n arcs
      pub few : (i j : ℕ) (c : List (Arc K)) → IsChain arcs i j c → 0 < length c → length c < n
      few i j [] h p = absurd (omega arith)
      few i j (a ∷ c) h p = omega (arith, length-le_from_distinct_below (i ∷ targets (a ∷ c)) n (distinct i j (a ∷ c) h) inside, length-map (a ∷ c) (λ a. a.to))
        where
          inside : (x : ℕ) → list_any (eqb x) (i ∷ targets (a ∷ c)) ≡ true → x < n
          inside x = go (eqb x i) refl
            where
              go : (b : Bool) → eqb x i ≡ b → (b || list_any (eqb x) (targets (a ∷ c))) ≡ true → x < n
              go true e t = subst (λ y. y < n) (h.1 ∙ sym (eqb-true x i e)) (from a h.0)
              go false e t = chain_to arcs n to i j (a ∷ c) h x t

      pub no_more : (i j : ℕ) → chains arcs (suc n) i j ≡ []
      no_more i j = empty (chains arcs (suc n) i j) (λ c m. let r = of_chains arcs (suc n) i j c m in let h : length c < n = few i j c r.1 (omega arith) in omega arith)
        where
          empty : {A : Type 0} (xs : List A) → ((x : A) → Mem x xs → ⊥) → xs ≡ []
          empty [] h = refl
          empty (x ∷ xs) h = absurd (h x (inl refl))

      module _ (o : Ops K) where
        pub L_straight : (i j : ℕ) → L o arcs (suc n) i j ≡ L o arcs n i j
        L_straight i j =
            ap (λ cs. join_over o (label_of o) (chains_upto arcs n i j ++ cs)) (no_more i j)
            ∙ ap (join_over o (label_of o)) (append-nil (chains_upto arcs n i j))

        -- L(n) from L(n): one arc, and then nothing or a chain
        pub L_before : Laws o → (i j : ℕ) → L o arcs n i j ≡ before o arcs (stay o arcs n) i j
        L_before laws i j = sym (L_straight i j) ∙ L_step o laws arcs n i j
