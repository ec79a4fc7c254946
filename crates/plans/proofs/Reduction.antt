-- The waits of pairs along which a rank falls: they connect the same, and every set of pairs that does so has them.
use Rattle.std.proofs.Common.{◌≡◌, ℕ, zero, suc, ◌+◌, ◌<◌, ◌≤◌, ◌⊎◌, refl, subst, inl, inr, ⊎_elim, arith}
use Rattle.plans.specs.Relations.{Reach, here, step, Connects, Wait, Same, Numbers, Waves}
pub use Rattle.graphs.proofs.Grow.{reach_join, reach_map}

pub connects_reach : {D : ℕ → ℕ → Type 0} {a b : ℕ} → Connects D a b → Reach D a b
connects_reach c = step c.1 c.2

pub connects_one : (D : ℕ → ℕ → Type 0) (a b : ℕ) → D a b → Connects D a b
connects_one D a b d = (b, d, here)

pub connects_join : {D : ℕ → ℕ → Type 0} {a b c : ℕ} → Connects D a b → Connects D b c → Connects D a c
connects_join x y = (x.0, x.1, reach_join x.2 (connects_reach y))

-- none or more: equal, or connected
pub reach_ways : {D : ℕ → ℕ → Type 0} {a b : ℕ} → Reach D a b → (a ≡ b) ⊎ Connects D a b
reach_ways here = inl refl
reach_ways (step {p} {q} d r) = inr (q, d, r)

-- each step of a chain is connected by other pairs: so is the chain
pub reach_over : {D P : ℕ → ℕ → Type 0} {a b : ℕ} → ((x y : ℕ) → D x y → Connects P x y) → Reach D a b → Reach P a b
reach_over f here = here
reach_over f (step {p} {q} d r) = reach_join (connects_reach (f p q d)) (reach_over f r)

pub connects_over : {D P : ℕ → ℕ → Type 0} (a b : ℕ) → ((x y : ℕ) → D x y → Connects P x y) → Connects D a b → Connects P a b
connects_over a b f c = let h = f a c.0 c.1 in (h.0, h.1, reach_join h.2 (reach_over f c.2))

-- every set of pairs that connects the same has each wait
pub wait_needed : (D P : ℕ → ℕ → Type 0) → Same D P → (a b : ℕ) → Wait D a b → P a b
wait_needed D P same a b w =
    let c = same.0 a b w.0 in
    ⊎_elim
    (λ e. subst (λ x. P a x) e c.1)
    (λ more. absurd (w.1 c.0 (same.1 a c.0 (connects_one P a c.0 c.1)) (same.1 c.0 b more)))
    (reach_ways c.2)

module _ (D : ℕ → ℕ → Type 0) (rank : ℕ → ℕ) (falls : Numbers D rank) where
  pub reach_falls : {a b : ℕ} → Reach D a b → rank b ≤ rank a
  reach_falls here = omega arith
  reach_falls (step {p} {q} d r) = omega (arith, falls p q d, reach_falls r)

  pub connects_falls : (a b : ℕ) → Connects D a b → rank b < rank a
  connects_falls a b c = omega (arith, falls a c.0 c.1, reach_falls c.2)

  -- a wait is itself a pair
  pub wait_pair : (a b : ℕ) → Wait D a b → D a b
  wait_pair = wait_needed D D (λ a b c. c, λ a b c. c)

  module _ (third : (a b : ℕ) → Dec ((c : ℕ) × Connects D a c × Connects D c b)) where
    waited : (fuel a b : ℕ) → rank a ≤ rank b + fuel → Connects D a b → Connects (Wait D) a b
    waited zero a b le c = absurd (omega (arith, connects_falls a b c))
    waited (suc fuel) a b le c = go (third a b) (λ x y. waited fuel x y)
      where
        go : Dec ((x : ℕ) × Connects D a x × Connects D x b) → ((x y : ℕ) → rank x ≤ rank y + fuel → Connects D x y → Connects (Wait D) x y) → Connects (Wait D) a b
        go (no none) more = connects_one (Wait D) a b (c, λ x l r. none (x, l, r))
        go (yes t) more =
            connects_join
            (more a t.0 (omega (arith, connects_falls t.0 b t.2)) t.1)
            (more t.0 b (omega (arith, connects_falls a t.0 t.1)) t.2)

    -- the waits connect the same pairs
    pub waits_connect : Same D (Wait D)
    waits_connect = (
      λ a b c. waited (rank a) a b (omega arith) c,
      λ a b c. connects_over a b (λ x y w. w.0) c,
    )

  -- the waves are the least numbering
  pub wave_least : (wave num : ℕ → ℕ) → Waves D wave → Numbers D num → (fuel a : ℕ) → rank a ≤ fuel → wave a ≤ num a
  wave_least wave num w up fuel a le = go fuel a le (w.tight a)
    where
      go : (fuel a : ℕ) → rank a ≤ fuel → (wave a ≡ 0) ⊎ ((b : ℕ) × D a b × (wave a ≡ wave b + 1)) → wave a ≤ num a
      go fuel a le (inl e) = omega arith
      go zero a le (inr t) = absurd (omega (arith, falls a t.0 t.1))
      go (suc fuel) a le (inr t) =
          let lower : wave t.0 ≤ num t.0 = go fuel t.0 (omega (arith, falls a t.0 t.1)) (w.tight t.0) in
          omega (arith, up a t.0 t.1, t.2)

-- two numberings by waves are equal: the definition leaves no choice
pub waves_one : (D : ℕ → ℕ → Type 0) (rank u v : ℕ → ℕ) → Numbers D rank → Waves D u → Waves D v → (a : ℕ) → u a ≡ v a
waves_one D rank u v falls x y a =
    let l : u a ≤ v a = wave_least D rank falls u v x y.above (rank a) a (omega arith) in
    let r : v a ≤ u a = wave_least D rank falls v u y x.above (rank a) a (omega arith) in
    omega arith

-- other pairs with the same connections have the same waits
pub wait_same : (D P : ℕ → ℕ → Type 0) → Same D P → (a b : ℕ) → Wait D a b → Wait P a b
wait_same D P same a b w = (same.0 a b w.0, λ c l r. w.1 c (same.1 a c l) (same.1 c b r))
