-- How a job's row grows, target by target.
use Rattle.std.proofs.Common.{◌≡◌, ℕ, ◌+◌, ◌-◌, ◌*◌, ◌<◌, ◌≤◌, cond, eqb, ◌⊎◌, List, length, get_or, sym, refl, ap, ◌∙◌, subst, inl, inr, ⊎_elim, arith, eq-eqb, ne_eqb}
use Rattle.std.proofs.lemmas.Bool.{cases_lt, cases_eq}
use Rattle.std.specs.List.{between}
use Rattle.std.proofs.lemmas.List.Edits.{get_or-between}
use Rattle.graphs.specs.Searches.{Marked}
use Rattle.plans.specs.Steps.{cell, joined, Takes, Gives, Bare, Merged, Named, Nested}

pub joined_old : (x y : ℕ) → 0 < x → joined x y ≡ x
joined_old x y p = ap (λ t. cond t (cond (eqb y 0) 0 1) x) (ne_eqb x 0 (λ e. omega arith))

pub joined_none : (x y : ℕ) → x ≡ 0 → y ≡ 0 → joined x y ≡ 0
joined_none x y p q = rw (p, q) refl

pub joined_new : (x y : ℕ) → x ≡ 0 → 0 < y → joined x y ≡ 1
joined_new x y p q = ap (λ t. cond t (cond (eqb y 0) 0 1) x) (eq-eqb x 0 p) ∙ ap (λ t. cond t 0 1) (ne_eqb y 0 (λ e. omega arith))

pub merged_none : (flags names sets : List ℕ) (n t r : ℕ) (row : List ℕ) → r ≤ t → ((c : ℕ) → get_or row c 0 ≡ 0) → Merged flags names sets n t r row
merged_none flags names sets n t r row le zeros = record {
  small = λ c l. omega (arith, zeros c);
  sound = λ c l h. absurd (omega (arith, zeros c));
  full = λ u c l a b h. absurd (omega arith);
  waits = λ c l h. absurd (omega (arith, zeros c));
  all = λ u a b f h. absurd (omega arith);
}

module _ (flags names sets : List ℕ) (n s t r : ℕ) (next : s ≡ t + 1) (row : List ℕ)
    (m : Merged flags names sets n s r row) where
  ways : (u : ℕ) → t ≤ u → (u ≡ t) ⊎ (s ≤ u)
  ways u l = ⊎_elim (λ e. inl e) (λ ne. inr (omega arith)) (cases_eq u t)

  -- rank t is no target
  pub merged_pass : get_or flags t 0 ≡ 0 → Merged flags names sets n t r row
  merged_pass off = record {
    small = m.small;
    sound = λ c l h. let q = m.sound c l h in (q.0, omega (arith, q.1), q.2, q.3);
    full = λ u c l a b h. ⊎_elim (λ e. absurd (omega (arith, h.0, ap (λ x. get_or flags x 0) e))) (λ up. m.full u c l up b h) (ways u a);
    waits = λ c l h. let q = m.waits c l h in (q.0, omega (arith, q.1), q.2, q.3, q.4, q.5);
    all = λ u a b f h. ⊎_elim (λ e. absurd (omega (arith, f, ap (λ x. get_or flags x 0) e))) (λ up. m.all u up b f h) (ways u a);
  }

  module _ (named : Named names n r) (t_in : t < r) (flag : Marked flags t) where
    -- that target is in the row already
    merged_skip : Nested names sets n r → 0 < get_or row (get_or names t 0) 0 → Merged flags names sets n t r row
    merged_skip nested old =
        let w = m.sound (get_or names t 0) (named.inside t t_in) old in
        let over : 0 < cell sets n (get_or names w.0 0) (get_or names t 0) =
        ⊎_elim (λ e. absurd (omega (arith, w.1, named.apart w.0 t w.2 t_in e))) (λ p. p) w.3.1 in
        record {
          small = m.small;
          sound = λ c l h. let q = m.sound c l h in (q.0, omega (arith, q.1), q.2, q.3);
          full = λ u c l a b h. ⊎_elim
              (λ e. ⊎_elim
              (λ (q : get_or names u 0 ≡ c). subst (λ x. 0 < get_or row x 0) (ap (λ x. get_or names x 0) (sym e) ∙ q) old)
              (λ p. m.full w.0 c l w.1 w.2 (w.3.0, inr (nested.within w.0 t c w.2 t_in l over (subst (λ x. 0 < cell sets n (get_or names x 0) c) e p))))
              h.1)
              (λ up. m.full u c l up b h)
              (ways u a);
          waits = λ c l h. let q = m.waits c l h in (q.0, omega (arith, q.1), q.2, q.3, q.4, q.5);
          all = λ u a b f h. ⊎_elim
              (λ e. absurd (h w.0 (omega (arith, w.1, e)) w.2 w.3.0 (subst (λ x. 0 < cell sets n (get_or names w.0 0) (get_or names x 0)) (sym e) over)))
              (λ up. m.all u up b f h)
              (ways u a);
        }

    -- it and its set are added
    module _ (none : get_or row (get_or names t 0) 0 ≡ 0) (new : List ℕ)
        (waits : get_or new (get_or names t 0) 0 ≡ 2)
        (added : (c : ℕ) → c < n → (c ≡ get_or names t 0 → ⊥) → get_or new c 0 ≡ joined (get_or row c 0) (cell sets n (get_or names t 0) c)) where
      -- another cell was there, is new by the target's set, or is not there
      cells : (c : ℕ) → c < n → (c ≡ get_or names t 0 → ⊥)
          → ((0 < get_or row c 0) × (get_or new c 0 ≡ get_or row c 0))
          ⊎ (((0 < cell sets n (get_or names t 0) c) × (get_or row c 0 ≡ 0) × (get_or new c 0 ≡ 1))
          ⊎ ((cell sets n (get_or names t 0) c ≡ 0) × (get_or row c 0 ≡ 0) × (get_or new c 0 ≡ 0)))
      cells c l ne = ⊎_elim
          (λ p. inl (p, added c l ne ∙ joined_old (get_or row c 0) (cell sets n (get_or names t 0) c) p))
          (λ z. let z' : get_or row c 0 ≡ 0 = omega arith in ⊎_elim
          (λ p. inr (inl (p, z', added c l ne ∙ joined_new (get_or row c 0) (cell sets n (get_or names t 0) c) z' p)))
          (λ q. let q' : cell sets n (get_or names t 0) c ≡ 0 = omega arith in inr (inr (q', z', added c l ne ∙ joined_none (get_or row c 0) (cell sets n (get_or names t 0) c) z' q')))
          (cases_lt 0 (cell sets n (get_or names t 0) c)))
          (cases_lt 0 (get_or row c 0))

      at_b : (c : ℕ) → c ≡ get_or names t 0 → get_or new c 0 ≡ 2
      at_b c e = ap (λ x. get_or new x 0) e ∙ waits

      add_small : (c : ℕ) → c < n → get_or new c 0 ≤ 2
      add_small c l = ⊎_elim
          (λ e. omega (arith, at_b c e))
          (λ ne. ⊎_elim (λ p. omega (arith, p.1, m.small c l)) (λ q. ⊎_elim (λ p. omega (arith, p.2)) (λ p. omega (arith, p.2)) q) (cells c l ne))
          (cases_eq c (get_or names t 0))

      add_sound : (c : ℕ) → c < n → 0 < get_or new c 0 → (u : ℕ) × (t ≤ u) × (u < r) × Gives flags names sets n u c
      add_sound c l h = ⊎_elim
          (λ e. (t, omega arith, t_in, (flag, inl (sym e))))
          (λ ne. ⊎_elim
          (λ p. let q = m.sound c l p.0 in (q.0, omega (arith, q.1), q.2, q.3))
          (λ q. ⊎_elim (λ p. (t, omega arith, t_in, (flag, inr p.0))) (λ p. absurd (omega (arith, p.2))) q)
          (cells c l ne))
          (cases_eq c (get_or names t 0))

      add_full : (u c : ℕ) → c < n → t ≤ u → u < r → Gives flags names sets n u c → 0 < get_or new c 0
      add_full u c l a b h = ⊎_elim
          (λ e. omega (arith, at_b c e))
          (λ ne. ⊎_elim
          (λ e. ⊎_elim
          (λ q. absurd (ne (sym q ∙ ap (λ x. get_or names x 0) e)))
          (λ p. let p' : 0 < cell sets n (get_or names t 0) c = subst (λ x. 0 < cell sets n (get_or names x 0) c) e p in
          ⊎_elim (λ w. omega (arith, w.0, w.1)) (λ w. ⊎_elim (λ w. omega (arith, w.2)) (λ w. absurd (omega (arith, w.0))) w) (cells c l ne))
          h.1)
          (λ up. let p = m.full u c l up b h in
          ⊎_elim (λ w. omega (arith, w.1)) (λ w. ⊎_elim (λ w. omega (arith, w.2)) (λ w. absurd (omega (arith, w.1))) w) (cells c l ne))
          (ways u a))
          (cases_eq c (get_or names t 0))

      add_waits : (c : ℕ) → c < n → get_or new c 0 ≡ 2 → (u : ℕ) × (t ≤ u) × (u < r) × Marked flags u × (get_or names u 0 ≡ c) × Bare flags names sets n r u c
      add_waits c l h = ⊎_elim
          (λ e. (t, omega arith, t_in, flag, sym e, λ v a b f p. omega (arith, none, m.full v (get_or names t 0) (named.inside t t_in) (omega arith) b (f, inr (subst (λ x. 0 < cell sets n (get_or names v 0) x) e p)))))
          (λ ne. ⊎_elim
          (λ p. let q = m.waits c l (sym p.1 ∙ h) in (q.0, omega (arith, q.1), q.2, q.3, q.4, q.5))
          (λ q. ⊎_elim (λ p. absurd (omega (arith, p.2))) (λ p. absurd (omega (arith, p.2))) q)
          (cells c l ne))
          (cases_eq c (get_or names t 0))

      add_all : (u : ℕ) → t ≤ u → u < r → Marked flags u → Bare flags names sets n r u (get_or names u 0) → get_or new (get_or names u 0) 0 ≡ 2
      add_all u a b f h = ⊎_elim
          (λ e. at_b (get_or names u 0) (ap (λ x. get_or names x 0) e))
          (λ up. let two = m.all u up b f h in
          ⊎_elim (λ p. p.1 ∙ two) (λ q. ⊎_elim (λ p. absurd (omega (arith, two, p.1))) (λ p. absurd (omega (arith, two, p.1))) q)
          (cells (get_or names u 0) (named.inside u b) (λ q. omega (arith, up, named.apart u t b t_in q))))
          (ways u a)

      merged_add : Merged flags names sets n t r new
      merged_add = record { small = add_small; sound = add_sound; full = add_full; waits = add_waits; all = add_all }

module _ (flags names sets : List ℕ) (n s r : ℕ) (row : List ℕ) (some : 0 < s) (m : Merged flags names sets n s r row) where
  -- the rank below s is no target
  pub merged_past : get_or flags (s - 1) 0 ≡ 0 → Merged flags names sets n (s - 1) r row
  merged_past off = merged_pass flags names sets n s (s - 1) r (omega arith) row m off

  -- it is one, and taken
  pub merged_more : s ≤ r → length row ≡ n → Named names n r → Nested names sets n r → Marked flags (s - 1) → (new : List ℕ)
      → Takes row (get_or names (s - 1) 0) (between (get_or names (s - 1) 0 * n) (get_or names (s - 1) 0 * n + n) sets) new
      → Merged flags names sets n (s - 1) r new
  merged_more le wide named nested flag new takes =
      let next : s ≡ (s - 1) + 1 = omega arith in
      let t_in : s - 1 < r = omega arith in
      ⊎_elim
      (λ old. subst (λ x. Merged flags names sets n (s - 1) r x) (sym (takes.skipped old)) (merged_skip flags names sets n s (s - 1) r next row m named t_in flag nested old))
      (λ le. let none : get_or row (get_or names (s - 1) 0) 0 ≡ 0 = omega arith in
      merged_add flags names sets n s (s - 1) r next row m named t_in flag none new (takes.waited none)
      (λ c l ne. takes.added none c (omega arith) ne ∙ ap (λ x. joined (get_or row c 0) x) (get_or-between sets (get_or names (s - 1) 0 * n) (get_or names (s - 1) 0 * n + n) c 0 (omega arith))))
      (cases_lt 0 (get_or row (get_or names (s - 1) 0) 0))

pub ruleset by_falling_rank = (merged_past, merged_more)
