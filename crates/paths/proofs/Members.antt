-- What the enumeration of chains holds.
use Rattle.std.proofs.Common.{◌≡◌, ℕ, zero, suc, ◌<◌, ◌≤◌, Bool, true, false, cond, eqb, ◌⊎◌, List, [], ◌∷◌, ◌++◌, map, length, sym, refl, ap, subst, inl, inr, arith, eq-eqb, eqb-true}
use native.Mathlib.Decide.{dec_le}
use Rattle.std.specs.List.{flat_map}
use Rattle.paths.specs.Chains.{Arc, Mem, chains, chains_upto, IsChain}

module _ {A : Type 0} where
  pub mem_left : (x : A) (xs ys : List A) → Mem x xs → Mem x (xs ++ ys)
  mem_left x [] ys m = elim m [ ]
  mem_left x (y ∷ xs) ys (inl e) = inl e
  mem_left x (y ∷ xs) ys (inr m) = inr (mem_left x xs ys m)

  pub mem_right : (x : A) (xs ys : List A) → Mem x ys → Mem x (xs ++ ys)
  mem_right x [] ys m = m
  mem_right x (y ∷ xs) ys m = inr (mem_right x xs ys m)

  pub mem_append : (x : A) (xs ys : List A) → Mem x (xs ++ ys) → Mem x xs ⊎ Mem x ys
  mem_append x [] ys m = inr m
  mem_append x (y ∷ xs) ys (inl e) = inl (inl e)
  mem_append x (y ∷ xs) ys (inr m) = go (mem_append x xs ys m)
    where
      go : Mem x xs ⊎ Mem x ys → Mem x (y ∷ xs) ⊎ Mem x ys
      go (inl h) = inl (inr h)
      go (inr h) = inr h

module _ {A B : Type 0} where
  pub mem_map : (f : A → B) (x : A) (xs : List A) → Mem x xs → Mem (f x) (map f xs)
  mem_map f x [] m = m
  mem_map f x (y ∷ xs) (inl e) = inl (ap f e)
  mem_map f x (y ∷ xs) (inr m) = inr (mem_map f x xs m)

  pub of_map : (f : A → B) (y : B) (xs : List A) → Mem y (map f xs) → (x : A) × Mem x xs × (y ≡ f x)
  of_map f y [] m = elim m [ ]
  of_map f y (x ∷ xs) (inl e) = (x, inl refl, e)
  of_map f y (x ∷ xs) (inr m) = let r = of_map f y xs m in (r.0, inr r.1, r.2)

  pub mem_flat_map : (g : A → List B) (y : B) (x : A) (xs : List A) → Mem x xs → Mem y (g x) → Mem y (flat_map g xs)
  mem_flat_map g y x [] m h = elim m [ ]
  mem_flat_map g y x (z ∷ xs) (inl e) h = mem_left y (g z) (flat_map g xs) (subst (λ w. Mem y (g w)) e h)
  mem_flat_map g y x (z ∷ xs) (inr m) h = mem_right y (g z) (flat_map g xs) (mem_flat_map g y x xs m h)

  pub of_flat_map : (g : A → List B) (y : B) (xs : List A) → Mem y (flat_map g xs) → (x : A) × Mem x xs × Mem y (g x)
  of_flat_map g y [] m = elim m [ ]
  of_flat_map g y (x ∷ xs) m = go (mem_append y (g x) (flat_map g xs) m) (λ h. of_flat_map g y xs h)
    where
      go : Mem y (g x) ⊎ Mem y (flat_map g xs) → (Mem y (flat_map g xs) → (z : A) × Mem z xs × Mem y (g z)) → (z : A) × Mem z (x ∷ xs) × Mem y (g z)
      go (inl h) more = (x, inl refl, h)
      go (inr h) more = let r = more h in (r.0, inr r.1, r.2)

pub of_cond : {A : Type 0} (b : Bool) (y : A) (xs : List A) → Mem y (cond b xs []) → (b ≡ true) × Mem y xs
of_cond true y xs m = (refl, m)
of_cond false y xs m = elim m [ ]

pub mem_cond : {A : Type 0} (b : Bool) (y : A) (xs : List A) → b ≡ true → Mem y xs → Mem y (cond b xs [])
mem_cond b y xs e m = subst (λ t. Mem y (cond t xs [])) (sym e) m

module _ {K : Type 0} (arcs : List (Arc K)) where
  pub in_chains : (c : List (Arc K)) (i j : ℕ) → IsChain arcs i j c → Mem c (chains arcs (length c) i j)
  in_chains [] i j e = mem_cond (eqb i j) [] ([] ∷ []) (eq-eqb i j e) (inl refl)
  in_chains (a ∷ c) i j h =
      mem_flat_map _ (a ∷ c) a arcs h.0
      (mem_cond (eqb a.from i) (a ∷ c) _ (eq-eqb a.from i h.1) (mem_map (λ d. a ∷ d) c _ (in_chains c a.to j h.2)))

  pub of_chains : (m : ℕ) (i j : ℕ) (c : List (Arc K)) → Mem c (chains arcs m i j) → (length c ≡ m) × IsChain arcs i j c
  of_chains zero i j c h = go (of_cond (eqb i j) c ([] ∷ []) h)
    where
      go : (eqb i j ≡ true) × Mem c ([] ∷ []) → (length c ≡ zero) × IsChain arcs i j c
      go r = elim r.1 [ inl e ↦ subst (λ d. (length d ≡ zero) × IsChain arcs i j d) (sym e) (refl, eqb-true i j r.0) | inr n ↦ elim n [ ] ]
  of_chains (suc m) i j c h =
      let r = of_flat_map _ c arcs h in
      let a = r.0 in
      let s = of_cond (eqb a.from i) c (map (λ d. a ∷ d) (chains arcs m a.to j)) r.2 in
      let t = of_map (λ d. a ∷ d) c (chains arcs m a.to j) s.1 in
      let u = of_chains m a.to j t.0 t.1 in
      subst (λ d. (length d ≡ suc m) × IsChain arcs i j d) (sym t.2) (ap suc u.0, (r.1, eqb-true a.from i s.0, u.1))

  pub in_chains_upto : (m : ℕ) (i j : ℕ) (c : List (Arc K)) → IsChain arcs i j c → 0 < length c → length c ≤ m → Mem c (chains_upto arcs m i j)
  in_chains_upto zero i j c h p q = absurd (omega arith)
  in_chains_upto (suc m) i j c h p q = go (dec_le (length c) m) (λ le. in_chains_upto m i j c h p le)
    where
      go : Dec (length c ≤ m) → (length c ≤ m → Mem c (chains_upto arcs m i j)) → Mem c (chains_upto arcs (suc m) i j)
      go (yes le) more = mem_left c (chains_upto arcs m i j) _ (more le)
      go (no gt) more =
          let e : length c ≡ suc m = omega arith in
          mem_right c (chains_upto arcs m i j) _ (subst (λ k. Mem c (chains arcs k i j)) e (in_chains c i j h))

  pub of_chains_upto : (m : ℕ) (i j : ℕ) (c : List (Arc K)) → Mem c (chains_upto arcs m i j) → (0 < length c) × (length c ≤ m) × IsChain arcs i j c
  of_chains_upto zero i j c h = elim h [ ]
  of_chains_upto (suc m) i j c h = go (mem_append c (chains_upto arcs m i j) _ h) (λ k. of_chains_upto m i j c k)
    where
      go : Mem c (chains_upto arcs m i j) ⊎ Mem c (chains arcs (suc m) i j) → (Mem c (chains_upto arcs m i j) → (0 < length c) × (length c ≤ m) × IsChain arcs i j c)
          → (0 < length c) × (length c ≤ suc m) × IsChain arcs i j c
      go (inl k) more = let r = more k in (r.0, omega arith, r.2)
      go (inr k) more = let r = of_chains (suc m) i j c k in (omega arith, omega arith, r.1)
