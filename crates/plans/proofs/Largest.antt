-- The largest of a list, and of what a function gives for the numbers below n.
use Rattle.std.proofs.Common.{◌≡◌, ℕ, zero, suc, ◌+◌, ◌<◌, ◌≤◌, ◌⊎◌, List, [], ◌∷◌, map, refl, subst, inl, inr, ⊎_elim, arith}
use native.Mathlib.Decide.{dec_le}
use Rattle.std.specs.List.{range_with_len}
use Rattle.paths.specs.Chains.{Mem}
use Rattle.paths.proofs.Members.{mem_map, of_map}
use Rattle.plans.specs.Plans.{largest}

pub largest_upper : (x : ℕ) (xs : List ℕ) → Mem x xs → x ≤ largest xs
largest_upper x [] m = elim m [ ]
largest_upper x (y ∷ xs) (inl e) = omega arith
largest_upper x (y ∷ xs) (inr m) = omega (arith, largest_upper x xs m)

pub largest_met : (xs : List ℕ) → (largest xs ≡ 0) ⊎ Mem (largest xs) xs
largest_met [] = inl refl
largest_met (x ∷ xs) = go (dec_le (largest xs) x) (largest_met xs)
  where
    go : Dec (largest xs ≤ x) → (largest xs ≡ 0) ⊎ Mem (largest xs) xs → (largest (x ∷ xs) ≡ 0) ⊎ Mem (largest (x ∷ xs)) (x ∷ xs)
    go (yes le) met = inr (inl (omega arith))
    go (no gt) (inl z) = absurd (omega arith)
    go (no gt) (inr m) = let e : largest xs ≡ largest (x ∷ xs) = omega arith in inr (inr (subst (λ y. Mem y xs) e m))

pub mem_range : (k from n : ℕ) → from ≤ k → k < from + n → Mem k (range_with_len from n)
mem_range k from zero low high = absurd (omega arith)
mem_range k from (suc n) low high = go (dec_le k from) (λ l. mem_range k (from + 1) n l (omega arith))
  where
    go : Dec (k ≤ from) → (from + 1 ≤ k → Mem k (range_with_len (from + 1) n)) → Mem k (range_with_len from (suc n))
    go (yes le) more = inl (omega arith)
    go (no gt) more = inr (more (omega arith))

pub of_range : (k from n : ℕ) → Mem k (range_with_len from n) → (from ≤ k) × (k < from + n)
of_range k from zero m = elim m [ ]
of_range k from (suc n) (inl e) = (omega arith, omega arith)
of_range k from (suc n) (inr m) = let r = of_range k (from + 1) n m in (omega (arith, r.0), omega (arith, r.1))

module _ (f : ℕ → ℕ) (n : ℕ) where
  abbrev pub most : ℕ
  most = largest (map f (range_with_len 0 n))

  pub most_upper : (k : ℕ) → k < n → f k ≤ most
  most_upper k l = largest_upper (f k) (map f (range_with_len 0 n)) (mem_map f k (range_with_len 0 n) (mem_range k 0 n (omega arith) (omega arith)))

  pub most_met : (most ≡ 0) ⊎ ((k : ℕ) × (k < n) × (most ≡ f k))
  most_met =
      ⊎_elim
      (λ z. inl z)
      (λ m. let r = of_map f most (range_with_len 0 n) m in inr (r.0, omega (arith, (of_range r.0 0 n r.1).1), r.2))
      (largest_met (map f (range_with_len 0 n)))
