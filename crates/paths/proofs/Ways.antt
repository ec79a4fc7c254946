-- Elimination: the join over the chains whose inner packages are below k, for k from 0 to n.
use Rattle.std.proofs.Common.{◌≡◌, ℕ, suc, ◌<◌, ◌≤◌, ◌⊎◌, List, [], ◌∷◌, ◌++◌, map, length, sym, refl, ap, ◌∙◌, subst, ap₂, inl, inr, arith, length-append}
use native.Mathlib.Decide.{dec_lt}
use Rattle.std.specs.List.{flat_map}
use Rattle.labels.specs.Algebra.{Ops, Laws, Absorbs}
use Rattle.paths.specs.Chains.{Arc, Mem, join_over, chains_upto, label_of, L, IsChain}
use Rattle.paths.specs.Tables.{through}
use Rattle.paths.proofs.Joins.{over_append, over_cong, over_flat_map, over_map, extend_over, over_extend}
use Rattle.paths.proofs.Order.{Under, under_trans, under_both, under_left, under_right, join_under, extend_left, extend_right, extend_under, over_least, over_upper}
use Rattle.paths.proofs.Members.{in_chains_upto, of_chains_upto, mem_append, of_flat_map, of_map}
use Rattle.paths.proofs.Cut.{chain_under}

-- every package of the chain but the first and the last is below k
abbrev pub Inner : {K : Type 0} → ℕ → List (Arc K) → Type 0
Inner k [] = Unit {0}
Inner k (a ∷ []) = Unit {0}
Inner k (a ∷ b ∷ c) = (a.to < k) × Inner k (b ∷ c)

abbrev pub Way : {K : Type 0} → List (Arc K) → ℕ → ℕ → ℕ → List (Arc K) → Type 0
Way arcs k i j c = IsChain arcs i j c × (0 < length c) × Inner k c

-- b is the join over the chains that keep P: over some of them, and no other is better
pub record IsJoin {K : Type 0} (o : Ops K) (P : List (Arc K) → Type 0) (b : K) : Type 0 where
  pub cs : List (List (Arc K))
  pub keep : (c : List (Arc K)) → Mem c cs → P c
  pub is : b ≡ join_over o (label_of o) cs
  pub upper : (c : List (Arc K)) → P c → Under o (label_of o c) b

-- a table once k packages are eliminated
abbrev pub Stage : {K : Type 0} → Ops K → List (Arc K) → ℕ → (ℕ → ℕ → K) → Type 0
Stage o arcs k T = (i j : ℕ) → IsJoin o (Way arcs k i j) (T i j)

inner_more : {K : Type 0} (k : ℕ) (c : List (Arc K)) → Inner k c → Inner (suc k) c
inner_more k [] h = tt
inner_more k (a ∷ []) h = tt
inner_more k (a ∷ b ∷ c) h = (omega (arith, h.0), inner_more k (b ∷ c) h.1)

inner_all : {K : Type 0} (arcs : List (Arc K)) (n : ℕ) → ((a : Arc K) → Mem a arcs → a.to < n) → (i j : ℕ) (c : List (Arc K)) → IsChain arcs i j c → Inner n c
inner_all arcs n ends i j [] h = tt
inner_all arcs n ends i j (a ∷ []) h = tt
inner_all arcs n ends i j (a ∷ b ∷ c) h = (ends a h.0, inner_all arcs n ends a.to j (b ∷ c) h.2)

pub chain_append : {K : Type 0} (arcs : List (Arc K)) (i k j : ℕ) (x y : List (Arc K)) → IsChain arcs i k x → IsChain arcs k j y → IsChain arcs i j (x ++ y)
chain_append arcs i k j [] y e h = subst (λ v. IsChain arcs v j y) (sym e) h
chain_append arcs i k j (a ∷ x) y p h = (p.0, p.1, chain_append arcs a.to k j x y p.2 h)

inner_append : {K : Type 0} (arcs : List (Arc K)) (i k : ℕ) (x : List (Arc K)) (b : Arc K) (y : List (Arc K)) → IsChain arcs i k x → Inner k x → Inner k (b ∷ y) → Inner (suc k) (x ++ (b ∷ y))
inner_append arcs i k [] b y p h q = inner_more k (b ∷ y) q
inner_append arcs i k (a ∷ []) b y p h q = (let e : a.to ≡ k = p.2 in omega arith, inner_more k (b ∷ y) q)
inner_append arcs i k (a ∷ c ∷ x) b y p h q = (omega (arith, h.0), inner_append arcs a.to k (c ∷ x) b y p.2 h.1 q)

way_append : {K : Type 0} (arcs : List (Arc K)) (i k j : ℕ) (x y : List (Arc K)) → Way arcs k i k x → Way arcs k k j y → Way arcs (suc k) i j (x ++ y)
way_append arcs i k j x [] p q = let h : ◌<◌ 0 0 = q.1 in absurd (omega arith)
way_append arcs i k j x (b ∷ y) p q = (chain_append arcs i k j x (b ∷ y) p.0 q.0, omega (arith, length-append x (b ∷ y), p.1), inner_append arcs i k x b y p.0 p.2 q.2)

-- one arc before a way
way_cons : {K : Type 0} (arcs : List (Arc K)) (k i j : ℕ) (a : Arc K) (c : List (Arc K)) → Mem a arcs → a.from ≡ i → a.to < k → Way arcs k a.to j c → Way arcs k i j (a ∷ c)
way_cons arcs k i j a [] m e h w = let z : ◌<◌ 0 0 = w.1 in absurd (omega arith)
way_cons arcs k i j a (b ∷ c) m e h w = ((m, e, w.0), omega arith, (h, w.2))

module _ {K : Type 0} (o : Ops K) (laws : Laws o) where
  pub label_append : (x y : List (Arc K)) → label_of o (x ++ y) ≡ o.extend (label_of o x) (label_of o y)
  label_append [] y = sym (laws.whole_left (label_of o y))
  label_append (a ∷ x) y = ap (o.extend a.label) (label_append x y) ∙ sym (laws.extend_assoc a.label (label_of o x) (label_of o y))

  -- the join over all x before all y
  over_product : (xs ys : List (List (Arc K))) → join_over o (label_of o) (flat_map (λ x. map (λ y. x ++ y) ys) xs) ≡ o.extend (join_over o (label_of o) xs) (join_over o (label_of o) ys)
  over_product xs ys =
      over_flat_map o laws (label_of o) (λ x. map (λ y. x ++ y) ys) xs
      ∙ over_cong o laws _ _ xs (λ x _.
      over_map o laws (label_of o) (λ y. x ++ y) ys
      ∙ over_cong o laws _ _ ys (λ y _. label_append x y)
      ∙ sym (extend_over o laws (label_of o x) (label_of o) ys))
      ∙ sym (over_extend o laws (label_of o) xs (join_over o (label_of o) ys))

  module _ (absorbs : Absorbs o) (arcs : List (Arc K)) where
    -- a join over chains is one label
    pub join_one : (P : List (Arc K) → Type 0) (a b : K) → IsJoin o P a → IsJoin o P b → a ≡ b
    join_one P a b p q =
        under_both o laws
        (subst (λ x. Under o x b) (sym p.is) (over_least o laws (label_of o) p.cs b (λ c m. q.upper c (p.keep c m))))
        (subst (λ x. Under o x a) (sym q.is) (over_least o laws (label_of o) q.cs a (λ c m. p.upper c (q.keep c m))))

    -- the start: L(1)
    pub stage_start : Stage o arcs 0 (L o arcs 1)
    stage_start i j = record {
      cs = chains_upto arcs 1 i j;
      keep = λ c m. let r = of_chains_upto arcs 1 i j c m in (r.2, r.0, short c r.1);
      is = refl;
      upper = λ c w. over_upper o laws absorbs (label_of o) (chains_upto arcs 1 i j) c (in_chains_upto arcs 1 i j c w.0 w.1 (one c w.2));
    }
      where
        short : (c : List (Arc K)) → length c ≤ 1 → Inner 0 c
        short [] h = tt
        short (a ∷ []) h = tt
        short (a ∷ b ∷ c) h = absurd (omega arith)

        one : (c : List (Arc K)) → Inner 0 c → length c ≤ 1
        one [] h = omega arith
        one (a ∷ []) h = omega arith
        one (a ∷ b ∷ c) h = let z : a.to < 0 = h.0 in absurd (omega arith)

    module _ (k : ℕ) (T : ℕ → ℕ → K) (stage : Stage o arcs k T) where
      -- one arc before the ways from v
      prefix : (i j : ℕ) (a : Arc K) → Mem a arcs → a.from ≡ i → a.to < k → Under o (o.extend a.label (T a.to j)) (T i j)
      prefix i j a m e h =
          let s = stage a.to j in
          subst (λ x. Under o x (T i j)) (sym (ap (o.extend a.label) s.is ∙ extend_over o laws a.label (label_of o) s.cs))
          (over_least o laws (λ c. o.extend a.label (label_of o c)) s.cs (T i j)
          (λ c n. (stage i j).upper (a ∷ c) (way_cons arcs k i j a c m e h (s.keep c n))))

      single : (i j : ℕ) (a : Arc K) → Mem a arcs → a.from ≡ i → a.to ≡ j → Under o a.label (T i j)
      single i j a m e f = subst (λ x. Under o x (T i j)) (laws.whole_right a.label) ((stage i j).upper (a ∷ []) ((m, e, f), omega arith, tt))

      -- an arc to a package at most k, before what is known of the ways from there
      one_more : (i j : ℕ) (a : Arc K) → Mem a arcs → a.from ≡ i → a.to < suc k → Under o (o.extend a.label (through o k T a.to j)) (through o k T i j)
      one_more i j a m e h =
          subst (λ x. Under o x (through o k T i j)) (sym (laws.spread_left a.label (T a.to j) (o.extend (T a.to k) (T k j)))) (go (dec_lt a.to k))
        where
          regroup : Under o (o.extend (o.extend a.label (T a.to k)) (T k j)) (o.extend (T i k) (T k j)) → Under o (o.extend a.label (o.extend (T a.to k) (T k j))) (through o k T i j)
          regroup u =
              under_trans o laws (subst (λ x. Under o x (o.extend (T i k) (T k j))) (laws.extend_assoc a.label (T a.to k) (T k j)) u)
              (under_right o laws absorbs (T i j) (o.extend (T i k) (T k j)))

          go : Dec (a.to < k) → Under o (o.join (o.extend a.label (T a.to j)) (o.extend a.label (o.extend (T a.to k) (T k j)))) (through o k T i j)
          go (yes lt) =
              join_under o laws
              (under_trans o laws (prefix i j a m e lt) (under_left o laws absorbs (T i j) (o.extend (T i k) (T k j))))
              (regroup (extend_right o laws (T k j) (prefix i k a m e lt)))
          go (no ge) =
              let at : a.to ≡ k = omega arith in
              let first : Under o a.label (T i k) = single i k a m e at in
              join_under o laws
              (under_trans o laws
              (subst (λ v. Under o (o.extend a.label (T v j)) (o.extend (T i k) (T k j))) (sym at) (extend_right o laws (T k j) first))
              (under_right o laws absorbs (T i j) (o.extend (T i k) (T k j))))
              (regroup (extend_right o laws (T k j) (under_trans o laws (extend_under o laws absorbs a.label (T a.to k)) first)))

      above : (i j : ℕ) (c : List (Arc K)) → Way arcs (suc k) i j c → Under o (label_of o c) (through o k T i j)
      above i j [] w = let z : ◌<◌ 0 0 = w.1 in absurd (omega arith)
      above i j (a ∷ []) w =
          under_trans o laws ((stage i j).upper (a ∷ []) (w.0, w.1, tt)) (under_left o laws absorbs (T i j) (o.extend (T i k) (T k j)))
      above i j (a ∷ b ∷ c) w =
          under_trans o laws
          (extend_left o laws a.label (above a.to j (b ∷ c) (w.0.2, omega arith, w.2.1)))
          (one_more i j a w.0.0 w.0.1 w.2.0)

      pub stage_next : Stage o arcs (suc k) (through o k T)
      stage_next i j =
          let s = stage i j in
          let p = stage i k in
          let q = stage k j in
          record {
            cs = s.cs ++ flat_map (λ x. map (λ y. x ++ y) q.cs) p.cs;
            keep = λ c m. kept c (mem_append c s.cs _ m);
            is = ap₂ o.join s.is (ap₂ o.extend p.is q.is ∙ sym (over_product p.cs q.cs)) ∙ sym (over_append o laws (label_of o) s.cs _);
            upper = above i j;
          }
        where
          kept : (c : List (Arc K)) → Mem c (stage i j).cs ⊎ Mem c (flat_map (λ x. map (λ y. x ++ y) (stage k j).cs) (stage i k).cs) → Way arcs (suc k) i j c
          kept c (inl m) = let w = (stage i j).keep c m in (w.0, w.1, inner_more k c w.2)
          kept c (inr m) =
              let r = of_flat_map (λ x. map (λ y. x ++ y) (stage k j).cs) c (stage i k).cs m in
              let t = of_map (λ y. r.0 ++ y) c (stage k j).cs r.2 in
              subst (λ d. Way arcs (suc k) i j d) (sym t.2) (way_append arcs i k j r.0 t.0 ((stage i k).keep r.0 r.1) ((stage k j).keep t.0 t.1))

    -- once all packages are eliminated the table is L(n)
    pub stage_end : (n : ℕ) → ((a : Arc K) → Mem a arcs → a.to < n) → (T : ℕ → ℕ → K) → Stage o arcs n T → (i j : ℕ) → T i j ≡ L o arcs n i j
    stage_end n ends T stage i j = join_one (Way arcs n i j) (T i j) (L o arcs n i j) (stage i j) (record {
      cs = chains_upto arcs n i j;
      keep = λ c m. let r = of_chains_upto arcs n i j c m in (r.2, r.0, inner_all arcs n ends i j c r.2);
      is = refl;
      upper = λ c w. chain_under o laws absorbs arcs n ends i j c w.0 w.1;
    })
