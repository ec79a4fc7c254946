-- Why what a root reaches by packages with no mark leads back to it, where the roots are taken from the end of
-- the order of a search along the turned edges.
use Rattle.std.proofs.Common.{◌≡◌, ℕ, ◌<◌, ◌≤◌, List, get_or, sym, refl, subst, ⊎_elim, arith}
use Rattle.std.proofs.lemmas.Bool.{cases_lt}
use Rattle.graphs.specs.Searches.{Reach, here, step, Marked, Fresh, Finished}

-- a chain turned round
turn_onto : {E : ℕ → ℕ → Type 0} {p q r : ℕ} → Reach (λ a b. E b a) p q → Reach E p r → Reach E q r
turn_onto here s = s
turn_onto (step e r) s = turn_onto r (step e s)

reach_turn : {E : ℕ → ℕ → Type 0} {p q : ℕ} → Reach (λ a b. E b a) p q → Reach E q p
reach_turn r = turn_onto r here

module _ (E : ℕ → ℕ → Type 0) (n : ℕ) (f : List ℕ) (e : ℕ) (fin : Finished E n f e) (heads : (a b : ℕ) → E a b → b < n)
    (k : ℕ) (k_in : k < e) (m : List ℕ) (above : (i : ℕ) → k < i → i < e → Marked m (get_or f i 0)) where
  -- a chain of unmarked packages that starts in the run of the k-th stays in it, so it leads back to the k-th
  back : (i : ℕ) → (fin.runs k k_in).low ≤ i → i ≤ k → {x v : ℕ} → Reach (Fresh E m) x v → get_or f i 0 ≡ x → Reach E v (get_or f k 0)
  back i l h here at = subst (λ y. Reach E y (get_or f k 0)) at (reach_turn ((fin.runs k k_in).reaches i l h))
  back i l h (step {p} {q} s r) at =
      let w = fin.all q (heads p q s.0) in
      let j : ℕ = w.0 in
      let j_le : j ≤ k =
      ⊎_elim
      (λ gt. absurd (omega (arith, s.1, subst (λ y. Marked m y) w.2 (above j gt w.1))))
      (λ le. le)
      (cases_lt k j) in
      let j_ge : (fin.runs k k_in).low ≤ j =
      ⊎_elim
      (λ lt. absurd ((fin.runs k k_in).apart j i lt l h (subst (λ y. E y (get_or f j 0)) (sym at) (subst (λ y. E p y) (sym w.2) s.0))))
      (λ ge. ge)
      (cases_lt j (fin.runs k k_in).low) in
      back j j_ge j_le r w.2

  pub back_to_root : {v : ℕ} → Reach (Fresh E m) (get_or f k 0) v → Reach E v (get_or f k 0)
  back_to_root r = back k (fin.runs k k_in).low_le (omega arith) r refl
