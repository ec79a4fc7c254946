-- The tests of groups tell what chains of any length do.
use Rattle.std.proofs.Common.{◌≡◌, ℕ, ◌<◌, ◌≤◌, Bool, true, ◌&&◌, ◌||◌, eqb, ◌⊎◌, List, [], ◌∷◌, ◌++◌, map, filter, length, slice_index, refl, sym, ap, ap₂, ◌∙◌, subst, inl, inr, ⊎_elim, arith, eq-eqb, eqb-true, length-append}
use mathlib.Core.List.{Permᴰ}
use mathlib.Core.List.Permᴰ
use Rattle.std.specs.Cmp.{both_ways}
use Rattle.std.specs.List.{range_with_len, list_any}
use Rattle.std.proofs.lemmas.Bool.{true≢false, and_parts, and_from, or_cases, or_left, or_right, cases_lt}
use Rattle.std.proofs.lemmas.List.FromFn.{get_or-map-range_with_len}
use Rattle.paths.specs.Chains.{Arc, Mem, IsChain, chains_upto}
use Rattle.paths.specs.Tables.{first_from}
use Rattle.paths.specs.Groups.{some, chained, together, group, groups, group_count, looped, Chained, Together, Grouped, LoopTold}
use Rattle.paths.proofs.Tests.{any_sound, any_full, first_passes, first_least}
use Rattle.paths.proofs.Members.{of_chains_upto}
use Rattle.paths.proofs.Cut.{short, any_cuts}
use Rattle.paths.proofs.Ways.{chain_append}

module _ {A : Type 0} where
  some_sound : (xs : List A) → some xs ≡ true → (x : A) × Mem x xs
  some_sound [] e = absurd (true≢false (sym e))
  some_sound (x ∷ xs) e = (x, inl refl)

  some_full : (x : A) (xs : List A) → Mem x xs → some xs ≡ true
  some_full x [] m = elim m [ ]
  some_full x (y ∷ xs) m = refl

  pub mem_perm : (x : A) {xs ys : List A} → Permᴰ xs ys → Mem x xs → Mem x ys
  mem_perm x Permᴰ.nil m = m
  mem_perm x (Permᴰ.cons e p) (inl h) = inl (h ∙ e)
  mem_perm x (Permᴰ.cons e p) (inr m) = inr (mem_perm x p m)
  mem_perm x (Permᴰ.swap e e') (inl h) = inr (inl (h ∙ e))
  mem_perm x (Permᴰ.swap e e') (inr (inl h)) = inl (h ∙ e')
  mem_perm x (Permᴰ.swap e e') (inr (inr m)) = inr (inr m)
  mem_perm x (Permᴰ.trans p q) m = mem_perm x q (mem_perm x p m)

module _ {K : Type 0} where
  chain_map : (xs ys : List (Arc K)) → ((a : Arc K) → Mem a xs → Mem a ys) → (p q : ℕ) (c : List (Arc K)) → IsChain xs p q c → IsChain ys p q c
  chain_map xs ys to p q [] h = h
  chain_map xs ys to p q (a ∷ c) h = (to a h.0, h.1, chain_map xs ys to a.to q c h.2)

  chained_map : (xs ys : List (Arc K)) → ((a : Arc K) → Mem a xs → Mem a ys) → (p q : ℕ) → Chained xs p q → Chained ys p q
  chained_map xs ys to p q h = (h.0, h.1, chain_map xs ys to p q h.0 h.2)

module _ {K : Type 0} (arcs : List (Arc K)) where
  -- the chain of one arc
  pub chained_one : (a : Arc K) → Mem a arcs → Chained arcs a.from a.to
  chained_one a m = (a ∷ [], omega arith, (m, refl, refl))

  pub chained_join : (p q r : ℕ) → Chained arcs p q → Chained arcs q r → Chained arcs p r
  chained_join p q r h k = (h.0 ++ k.0, omega (arith, h.1, length-append h.0 k.0), chain_append arcs p q r h.0 k.0 h.2 k.2)

  pub together_sym : (p q : ℕ) → Together arcs p q → Together arcs q p
  together_sym p q (inl e) = inl (sym e)
  together_sym p q (inr h) = inr (h.1, h.0)

  pub together_trans : (p q r : ℕ) → Together arcs p q → Together arcs q r → Together arcs p r
  together_trans p q r (inl e) k = subst (λ x. Together arcs x r) (sym e) k
  together_trans p q r (inr h) (inl e) = subst (λ x. Together arcs p x) e (inr h)
  together_trans p q r (inr h) (inr k) = inr (chained_join p q r h.0 k.0, chained_join r q p k.1 h.1)

  pub chained_sound : (n p q : ℕ) → chained arcs n p q ≡ true → Chained arcs p q
  chained_sound n p q e =
      let s = some_sound (chains_upto arcs n p q) e in
      let r = of_chains_upto arcs n p q s.0 s.1 in
      (s.0, r.0, r.2)

  pub together_sound : (n p q : ℕ) → together arcs n p q ≡ true → Together arcs p q
  together_sound n p q e = go (or_cases (eqb p q) (chained arcs n p q && chained arcs n q p) e)
    where
      go : (eqb p q ≡ true) ⊎ ((chained arcs n p q && chained arcs n q p) ≡ true) → Together arcs p q
      go (inl same) = inl (eqb-true p q same)
      go (inr both) = let h = and_parts (chained arcs n p q) (chained arcs n q p) both in inr (chained_sound n p q h.0, chained_sound n q p h.1)

  module _ (n : ℕ) (ends : (a : Arc K) → Mem a arcs → a.to < n) where
    pub chained_full : (p q : ℕ) → Chained arcs p q → chained arcs n p q ≡ true
    chained_full p q h =
        let s = short arcs n ends (λ _ _. Unit {0}) any_cuts p q h.0 h.2 h.1 in
        some_full s.0 (chains_upto arcs n p q) s.1

    pub together_full : (p q : ℕ) → Together arcs p q → together arcs n p q ≡ true
    together_full p q (inl e) = or_left (eqb p q) (chained arcs n p q && chained arcs n q p) (eq-eqb p q e)
    together_full p q (inr h) =
        or_right (eqb p q) (chained arcs n p q && chained arcs n q p)
        (and_from (chained arcs n p q) (chained arcs n q p) (chained_full p q h.0) (chained_full q p h.1))

    pub group_in : (p : ℕ) → Together arcs p (group arcs n p)
    group_in p = together_sound n p (group arcs n p) (first_passes (together arcs n p) p 0 (ap (together arcs n p) (omega arith) ∙ together_full p p (inl refl)))

    pub group_least : (p q : ℕ) → Together arcs p q → group arcs n p ≤ q
    group_least p q h =
        ⊎_elim
        (λ lt. absurd (true≢false (sym (together_full p q h) ∙ first_least (together arcs n p) p 0 q (omega arith) lt)))
        (λ le. le)
        (cases_lt q (group arcs n p))

    pub group_one : (p q : ℕ) → Together arcs p q → group arcs n p ≡ group arcs n q
    group_one p q h =
        let there = group_least p (group arcs n q) (together_trans p q (group arcs n q) h (group_in q)) in
        let back = group_least q (group arcs n p) (together_trans q p (group arcs n p) (together_sym p q h) (group_in p)) in
        omega arith

    pub group_apart : (p q : ℕ) → group arcs n p ≡ group arcs n q → Together arcs p q
    group_apart p q e =
        together_trans p (group arcs n p) q (group_in p)
        (subst (λ x. Together arcs x q) (sym e) (together_sym q (group arcs n q) (group_in q)))

module _ {K : Type 0} (arcs others : List (Arc K)) (n : ℕ) (ends : (a : Arc K) → Mem a arcs → a.to < n) (perm : Permᴰ arcs others) where
  pub chained_perm : (p q : ℕ) → chained arcs n p q ≡ chained others n p q
  chained_perm p q =
      both_ways (chained arcs n p q) (chained others n p q)
      (λ e. chained_full others n (λ a m. ends a (mem_perm a (Permᴰ.symm perm) m)) p q (chained_map arcs others (λ a. mem_perm a perm) p q (chained_sound arcs n p q e)))
      (λ e. chained_full arcs n ends p q (chained_map others arcs (λ a. mem_perm a (Permᴰ.symm perm)) p q (chained_sound others n p q e)))

  together_perm : (p q : ℕ) → together arcs n p q ≡ together others n p q
  together_perm p q = ap₂ (λ x y. eqb p q || (x && y)) (chained_perm p q) (chained_perm q p)

  pub group_perm : (p : ℕ) → group arcs n p ≡ group others n p
  group_perm p = ap (λ (test : ℕ → Bool). first_from test p 0) (λ i q. together_perm p q i)

  groups_perm : groups arcs n ≡ groups others n
  groups_perm = ap (λ (f : ℕ → ℕ). map f (range_with_len 0 n)) (λ i p. group_perm p i)

  group_count_perm : group_count arcs n ≡ group_count others n
  group_count_perm = ap (λ (f : ℕ → ℕ). length (filter (λ p. eqb (f p) p) (range_with_len 0 n))) (λ i p. group_perm p i)

  looped_perm : looped arcs n ≡ looped others n
  looped_perm = ap (λ (test : ℕ → Bool). list_any test (range_with_len 0 n)) (λ i p. chained_perm p p i)

module _ {K : Type 0} (arcs : List (Arc K)) (n : ℕ) (ends : (a : Arc K) → Mem a arcs → (a.from < n) × (a.to < n)) where
  heads : (a : Arc K) → Mem a arcs → a.to < n
  heads a m = (ends a m).1

  pub groups_at : (p : ℕ) → p < n → slice_index (groups arcs n) p ≡ group arcs n p
  groups_at p h = get_or-map-range_with_len (group arcs n) 0 n p p 0 h (omega arith)

  pub grouped : Grouped arcs n (groups arcs n)
  grouped = record {
    member = λ p h. subst (λ x. Together arcs p x) (sym (groups_at p h)) (group_in arcs n heads p);
    lowest = λ p q h k t. subst (λ x. x ≤ q) (sym (groups_at p h)) (group_least arcs n heads p q t);
    one = λ p q h k t. groups_at p h ∙ group_one arcs n heads p q t ∙ sym (groups_at q k);
    apart = λ p q h k e. group_apart arcs n heads p q (sym (groups_at p h) ∙ e ∙ groups_at q k);
    any_order = λ others perm. groups_perm arcs others n heads perm;
    count_any_order = λ others perm. group_count_perm arcs others n heads perm;
  }

  -- a chain that leads back starts below n
  pub chained_from : (p q : ℕ) → Chained arcs p q → p < n
  chained_from p q h = go h.0 h.1 h.2
    where
      go : (c : List (Arc K)) → 0 < length c → IsChain arcs p q c → p < n
      go [] some h = absurd (omega arith)
      go (a ∷ c) some h = subst (λ x. x < n) h.1 (ends a h.0).0

  pub loop_told : LoopTold arcs n (looped arcs n)
  loop_told = record {
    found = λ e. let r = any_sound (λ p. chained arcs n p p) n e in (r.0, chained_sound arcs n r.0 r.0 r.2);
    clear = λ e loop.
        let back = any_full (λ p. chained arcs n p p) n loop.0 (chained_from loop.0 loop.0 loop.1) (chained_full arcs n heads loop.0 loop.0 loop.1) in
        true≢false (sym back ∙ e);
    any_order = λ others perm. looped_perm arcs others n heads perm;
  }
