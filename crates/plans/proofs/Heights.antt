-- The waves are the least numbering in which each job is above those that it depends on. The waits are the fewest
-- pairs that connect what the arcs between jobs do.
use Rattle.std.proofs.Common.{◌≡◌, ℕ, zero, suc, ◌<◌, ◌≤◌, Bool, false, cond, ◌⊎◌, List, sym, ap, ◌∙◌, inl, inr, ⊎_elim, arith}
use Rattle.std.proofs.lemmas.Bool.{cases_Bool}
use Rattle.paths.specs.declared.arc.Arc.{Arc}
use Rattle.paths.specs.Chains.{Mem}
use Rattle.plans.specs.Plans.{depends, height, wave}
use Rattle.plans.specs.Relations.{Same, Numbers, Waves}
use Rattle.plans.specs.Laws.{Depends, Waits, Passes}
use Rattle.plans.proofs.Meaning.{size, size_most, size_falls, depends_to, job_inside, third, wait_sound, wait_full}
use Rattle.plans.proofs.Largest.{most, most_upper, most_met}
use Rattle.plans.proofs.Reduction.{waits_connect, wait_needed, wave_least, connects_over, connects_one}

module _ {K : Type 0} (arcs : List (Arc K)) (n : ℕ) (ends : (a : Arc K) → Mem a arcs → (a.from < n) × (a.to < n)) (changed : List ℕ)
    (known : (c : ℕ) → Mem c changed → c < n) where
  abbrev rank : ℕ → ℕ
  rank = size arcs n ends changed known

  falls : Numbers (Depends arcs n changed) rank
  falls = size_falls arcs n ends changed known

  -- what b adds to the height of a
  abbrev over : ℕ → ℕ → ℕ → ℕ
  over k a b = cond (depends arcs n changed a b) (suc (height arcs n changed k b)) 0

  over_yes : (k a b : ℕ) → Depends arcs n changed a b → over k a b ≡ suc (height arcs n changed k b)
  over_yes k a b d = ap (λ t. cond t (suc (height arcs n changed k b)) 0) d

  over_no : (k a b : ℕ) → depends arcs n changed a b ≡ false → over k a b ≡ 0
  over_no k a b d = ap (λ t. cond t (suc (height arcs n changed k b)) 0) d

  over_same : (k j a b : ℕ) → (Depends arcs n changed a b → height arcs n changed k b ≡ height arcs n changed j b) → over k a b ≡ over j a b
  over_same k j a b same =
      ⊎_elim
      (λ d. over_yes k a b d ∙ ap suc (same d) ∙ sym (over_yes j a b d))
      (λ d. over_no k a b d ∙ sym (over_no j a b d))
      (cases_Bool (depends arcs n changed a b))

  over_met : (k a : ℕ) → (most (over k a) n ≡ 0) ⊎ ((b : ℕ) × Depends arcs n changed a b × (most (over k a) n ≡ suc (height arcs n changed k b)))
  over_met k a =
      ⊎_elim
      (λ z. inl z)
      (λ (r : (b : ℕ) × (b < n) × (most (over k a) n ≡ over k a b)).
      ⊎_elim
      (λ d. inr (r.0, d, r.2 ∙ over_yes k a r.0 d))
      (λ d. inl (r.2 ∙ over_no k a r.0 d))
      (cases_Bool (depends arcs n changed a r.0)))
      (most_met (over k a) n)

  height_low : (k a : ℕ) → height arcs n changed k a ≤ rank a
  height_low zero a = omega arith
  height_low (suc k) a =
      ⊎_elim
      (λ z. omega arith)
      (λ (r : (b : ℕ) × Depends arcs n changed a b × (most (over k a) n ≡ suc (height arcs n changed k b))).
      omega (arith, falls a r.0 r.1, height_low k r.0, r.2))
      (over_met k a)

  -- from a's rank on, the height stays
  stable : (k j a : ℕ) → rank a ≤ k → rank a ≤ j → height arcs n changed k a ≡ height arcs n changed j a
  stable zero j a p q = omega (arith, height_low j a)
  stable (suc k) zero a p q = omega (arith, height_low (suc k) a)
  stable (suc k) (suc j) a p q =
      ap (λ (f : ℕ → ℕ). most f n) (λ i b. over_same k j a b (λ d. stable k j b (omega (arith, falls a b d)) (omega (arith, falls a b d))) i)

  -- one more than the largest among the targets
  wave_step : (a : ℕ) → wave arcs n changed a ≡ most (over n a) n
  wave_step a = let le = size_most arcs n ends changed known a in stable n (suc n) a le (omega (arith, le))

  pub wave_waves : Waves (Depends arcs n changed) (wave arcs n changed)
  wave_waves = record {
    above = λ a b d.
        let l : b < n = job_inside arcs n ends changed known b (depends_to arcs n ends changed known a b d) in
        omega (arith, most_upper (over n a) n b l, over_yes n a b d, wave_step a);
    tight = λ a.
        ⊎_elim
        (λ z. inl (wave_step a ∙ z))
        (λ (r : (b : ℕ) × Depends arcs n changed a b × (most (over n a) n ≡ suc (wave arcs n changed b))).
        inr (r.0, r.1, omega (arith, wave_step a, r.2)))
        (over_met n a);
  }

  pub wave_low : (a : ℕ) → wave arcs n changed a ≤ n
  wave_low a = omega (arith, height_low n a, size_most arcs n ends changed known a)

  pub law_same : Same (Depends arcs n changed) (Waits arcs n changed)
  law_same =
      let same = waits_connect (Depends arcs n changed) rank falls (third arcs n ends changed known) in (
        λ a b c. connects_over a b (λ x y w. connects_one (Waits arcs n changed) x y (wait_full arcs n ends changed known x y w)) (same.0 a b c),
        λ a b c. connects_over a b (λ x y w. (wait_sound arcs n ends changed known x y w).0) c,
      )

  pub law_least : (test : ℕ → ℕ → Bool) → Same (Depends arcs n changed) (Passes test) → (a b : ℕ) → Waits arcs n changed a b → Passes test a b
  law_least test same a b w = wait_needed (Depends arcs n changed) (Passes test) same a b (wait_sound arcs n ends changed known a b w)

  pub law_wave : (num : ℕ → ℕ) → Numbers (Depends arcs n changed) num → (a : ℕ) → wave arcs n changed a ≤ num a
  law_wave num up a = wave_least (Depends arcs n changed) rank falls (wave arcs n changed) num wave_waves up (rank a) a (omega arith)
