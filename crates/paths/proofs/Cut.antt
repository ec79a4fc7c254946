-- A long chain has a cycle, and leads to the same package without it. No label is better with it, so L(n) has every chain.
use Rattle.std.proofs.Common.{◌≡◌, ℕ, ◌<◌, ◌≤◌, Bool, true, false, ◌||◌, eqb, ◌⊎◌, List, [], ◌∷◌, map, length, sym, refl, subst, inl, inr, le_trans, arith, ne_eqb, eqb-true}
use native.Mathlib.Decide.{ℕ_discrete}
use Rattle.std.specs.List.{AllByRecursion, IsDistinct, list_any}
use Rattle.std.proofs.lemmas.Bool.{false≢true}
use Rattle.std.proofs.lemmas.List.{length-map}
use Rattle.std.proofs.lemmas.Map.Keys.{IsDistinct-tail, IsDistinct-cons}
use Rattle.std.proofs.lemmas.Map.Steps.{length-le_from_distinct_below}
use Rattle.labels.specs.Algebra.{Ops, Laws, Absorbs}
use Rattle.paths.specs.Chains.{Arc, Mem, chains_upto, label_of, L, IsChain}
use Rattle.paths.proofs.Order.{Under, under_trans, under_both, under_refl, extend_left, under_extend, over_least, over_upper}
use Rattle.paths.proofs.Members.{in_chains_upto, of_chains_upto}

abbrev pub targets : {K : Type 0} → List (Arc K) → List ℕ
targets c = map (λ a. a.to) c

-- no arc of c leads to v
abbrev Fresh : {K : Type 0} → ℕ → List (Arc K) → Type 0
Fresh v c = AllByRecursion (λ u. eqb v u ≡ false) (targets c)

-- R holds between a chain and what is left of it once arcs are cut out
pub record Cuts {K : Type 0} (R : List (Arc K) → List (Arc K) → Type 0) : Type 0 where
  pub none : R [] []
  pub both : (a : Arc K) (x y : List (Arc K)) → R x y → R (a ∷ x) (a ∷ y)
  pub less : (a : Arc K) (x : List (Arc K)) → R (a ∷ x) x
  pub trans : (x y z : List (Arc K)) → R x y → R y z → R x z

-- no label is better with an arc more
under_cuts : {K : Type 0} (o : Ops K) → Laws o → Absorbs o → Cuts (λ x y. Under o (label_of o x) (label_of o y))
under_cuts o laws absorbs = record {
  none = under_refl o laws absorbs o.whole;
  both = λ a x y h. extend_left o laws a.label h;
  less = λ a x. under_extend o laws absorbs a.label (label_of o x);
  trans = λ x y z h k. under_trans o laws h k;
}

-- nothing is asked of what is left
pub any_cuts : {K : Type 0} → Cuts {K = K} (λ _ _. Unit {0})
any_cuts = record { none = tt; both = λ a x y h. tt; less = λ a x. tt; trans = λ x y z h k. tt }

module _ {K : Type 0} (R : List (Arc K) → List (Arc K) → Type 0) (cuts : Cuts R) (arcs : List (Arc K)) where
  -- what is left of c behind its first arc to v
  abbrev Rest : ℕ → ℕ → List (Arc K) → Type 0
  Rest v j c = (z : List (Arc K)) × IsChain arcs v j z × IsDistinct eqb (v ∷ targets z) × R c z

  -- a chain with the ends of c, left of it, that comes to no package twice
  abbrev Simple : ℕ → ℕ → List (Arc K) → Type 0
  Simple i j c = (z : List (Arc K)) × IsChain arcs i j z × IsDistinct eqb (targets z) × R c z × (0 < length c → 0 < length z)

  behind : (v k j : ℕ) (c : List (Arc K)) → IsChain arcs k j c → IsDistinct eqb (targets c) → Fresh v c ⊎ Rest v j c
  behind v k j [] h d = inl tt
  behind v k j (b ∷ w) h d = go (ℕ_discrete v b.to) (behind v b.to j w h.2 (IsDistinct-tail eqb b.to (targets w) d))
    where
      go : Dec (v ≡ b.to) → Fresh v w ⊎ Rest v j w → Fresh v (b ∷ w) ⊎ Rest v j (b ∷ w)
      go (yes e) more = inr (w, subst (λ x. IsChain arcs x j w) (sym e) h.2, subst (λ x. IsDistinct eqb (x ∷ targets w)) (sym e) d, cuts.less b w)
      go (no e) (inl f) = inl (ne_eqb v b.to e, f)
      go (no e) (inr r) = inr (r.0, r.1, r.2, cuts.trans (b ∷ w) w r.0 (cuts.less b w) r.3)

  simple : (i j : ℕ) (c : List (Arc K)) → IsChain arcs i j c → Simple i j c
  unfolding IsDistinct
  simple i j [] h = ([], h, tt, cuts.none, λ p. p)
  simple i j (a ∷ c) h = go (simple a.to j c h.2)
    where
      by : (s : Simple a.to j c) → Fresh a.to s.0 ⊎ Rest a.to j s.0 → Simple i j (a ∷ c)
      by s (inl fresh) = (a ∷ s.0, (h.0, h.1, s.1), IsDistinct-cons eqb a.to (targets s.0) fresh s.2, cuts.both a c s.0 s.3, λ _. omega arith)
      by s (inr r) = (a ∷ r.0, (h.0, h.1, r.1), r.2, cuts.both a c r.0 (cuts.trans c s.0 r.0 s.3 r.3), λ _. omega arith)

      go : Simple a.to j c → Simple i j (a ∷ c)
      go s = by s (behind a.to a.to j s.0 s.1 s.2)

module _ {K : Type 0} (arcs : List (Arc K)) (n : ℕ) (ends : (a : Arc K) → Mem a arcs → a.to < n) where
  pub chain_to : (i j : ℕ) (c : List (Arc K)) → IsChain arcs i j c → (x : ℕ) → list_any (eqb x) (targets c) ≡ true → x < n
  chain_to i j [] h x m = absurd (false≢true m)
  chain_to i j (a ∷ c) h x m = go (eqb x a.to) refl (chain_to a.to j c h.2 x) m
    where
      go : (b : Bool) → eqb x a.to ≡ b → (list_any (eqb x) (targets c) ≡ true → x < n) → (b || list_any (eqb x) (targets c)) ≡ true → x < n
      go true e more t = subst (λ y. y < n) (sym (eqb-true x a.to e)) (ends a h.0)
      go false e more t = more t

  -- what is left of a chain has at most n arcs
  pub short : (R : List (Arc K) → List (Arc K) → Type 0) → Cuts R → (i j : ℕ) (c : List (Arc K)) → IsChain arcs i j c → 0 < length c
      → (z : List (Arc K)) × Mem z (chains_upto arcs n i j) × R c z
  short R cuts i j c h p =
      let s = simple R cuts arcs i j c h in
      let few : length s.0 ≤ n = omega (arith, length-le_from_distinct_below (targets s.0) n s.2 (chain_to i j s.0 s.1), length-map s.0 (λ a. a.to)) in
      (s.0, in_chains_upto arcs n i j s.0 s.1 (s.4 p) few, s.3)

module _ {K : Type 0} (o : Ops K) (laws : Laws o) (absorbs : Absorbs o) (arcs : List (Arc K)) (n : ℕ) (ends : (a : Arc K) → Mem a arcs → a.to < n) where
  -- every chain is under L(n)
  pub chain_under : (i j : ℕ) (c : List (Arc K)) → IsChain arcs i j c → 0 < length c → Under o (label_of o c) (L o arcs n i j)
  chain_under i j c h p =
      let s = short arcs n ends (λ x y. Under o (label_of o x) (label_of o y)) (under_cuts o laws absorbs) i j c h p in
      under_trans o laws s.2 (over_upper o laws absorbs (label_of o) (chains_upto arcs n i j) s.0 s.1)

  -- L(m) is L(n) from n on
  pub L_all : (m : ℕ) → n ≤ m → (i j : ℕ) → L o arcs m i j ≡ L o arcs n i j
  L_all m h i j =
      under_both o laws
      (over_least o laws (label_of o) (chains_upto arcs m i j) (L o arcs n i j) (λ c k. let r = of_chains_upto arcs m i j c k in chain_under i j c r.2 r.0))
      (over_least o laws (label_of o) (chains_upto arcs n i j) (L o arcs m i j) (λ c k. let r = of_chains_upto arcs n i j c k in
      over_upper o laws absorbs (label_of o) (chains_upto arcs m i j) c (in_chains_upto arcs m i j c r.2 r.0 (le_trans r.1 h))))
