-- Laws of bitwise and and or.
use Rattle.std.specs.Prelude.{◌≡◌, ℕ, zero, suc, ◌+◌, ◌*◌, ◌/◌, ◌%◌, ◌^◌, ◌<◌, bit_and, bit_or, refl}
use Rattle.std.proofs.Common.{sym, ap, ap₂, ◌∙◌, div-add-mod', mod-lt, mod-eq_of_lt, zero-lt-suc, arith}
use Rattle.std.proofs.Math.Arith.{bin_ind}
use Rattle.std.proofs.lemmas.Nat.{and_shr, and_mod, or_shr, or_mod, and_comm, and_mask}
use Rattle.std.specs.Int.Bits.{or_add_and}

-- a law of three numbers that holds of digits holds of numbers
module _ (F G : ℕ → ℕ → ℕ → ℕ)
    (F_half : (a b c : ℕ) → F a b c / 2 ≡ F (a / 2) (b / 2) (c / 2))
    (F_odd : (a b c : ℕ) → F a b c % 2 ≡ F (a % 2) (b % 2) (c % 2))
    (G_half : (a b c : ℕ) → G a b c / 2 ≡ G (a / 2) (b / 2) (c / 2))
    (G_odd : (a b c : ℕ) → G a b c % 2 ≡ G (a % 2) (b % 2) (c % 2))
    (at_0 : (b c : ℕ) → F 0 b c ≡ G 0 b c)
    (at_100 : F 1 0 0 ≡ G 1 0 0) (at_101 : F 1 0 1 ≡ G 1 0 1) (at_110 : F 1 1 0 ≡ G 1 1 0) (at_111 : F 1 1 1 ≡ G 1 1 1) where
  on_digits : (x y z : ℕ) → x < 2 → y < 2 → z < 2 → F x y z ≡ G x y z
  on_digits zero y z hx hy hz = at_0 y z
  on_digits (suc zero) zero zero hx hy hz = at_100
  on_digits (suc zero) zero (suc zero) hx hy hz = at_101
  on_digits (suc zero) zero (suc (suc z)) hx hy hz = absurd (omega arith)
  on_digits (suc zero) (suc zero) zero hx hy hz = at_110
  on_digits (suc zero) (suc zero) (suc zero) hx hy hz = at_111
  on_digits (suc zero) (suc zero) (suc (suc z)) hx hy hz = absurd (omega arith)
  on_digits (suc zero) (suc (suc y)) z hx hy hz = absurd (omega arith)
  on_digits (suc (suc x)) y z hx hy hz = absurd (omega arith)

  pub by_digits : (a b c : ℕ) → F a b c ≡ G a b c
  by_digits =
      bin_ind (λ (n : ℕ). (b c : ℕ) → F n b c ≡ G n b c) at_0
      (λ n ih b c.
      sym (div-add-mod' (F n b c) 2)
      ∙ ap₂ (λ (x y : ℕ). x * 2 + y)
      (F_half n b c ∙ ih (b / 2) (c / 2) ∙ sym (G_half n b c))
      (F_odd n b c ∙ on_digits (n % 2) (b % 2) (c % 2) (mod-lt n (zero-lt-suc 1)) (mod-lt b (zero-lt-suc 1)) (mod-lt c (zero-lt-suc 1)) ∙ sym (G_odd n b c))
      ∙ div-add-mod' (G n b c) 2)

pub and_assoc : (a b c : ℕ) → bit_and (bit_and a b) c ≡ bit_and a (bit_and b c)
and_assoc =
    by_digits (λ a b c. bit_and (bit_and a b) c) (λ a b c. bit_and a (bit_and b c))
    (λ a b c. and_shr (bit_and a b) c 1 ∙ ap (λ x. bit_and x (c / 2)) (and_shr a b 1))
    (λ a b c. and_mod (bit_and a b) c 1 ∙ ap (λ x. bit_and x (c % 2)) (and_mod a b 1))
    (λ a b c. and_shr a (bit_and b c) 1 ∙ ap (bit_and (a / 2)) (and_shr b c 1))
    (λ a b c. and_mod a (bit_and b c) 1 ∙ ap (bit_and (a % 2)) (and_mod b c 1))
    (λ b c. refl) refl refl refl refl

pub or_assoc : (a b c : ℕ) → bit_or (bit_or a b) c ≡ bit_or a (bit_or b c)
or_assoc =
    by_digits (λ a b c. bit_or (bit_or a b) c) (λ a b c. bit_or a (bit_or b c))
    (λ a b c. or_shr (bit_or a b) c 1 ∙ ap (λ x. bit_or x (c / 2)) (or_shr a b 1))
    (λ a b c. or_mod (bit_or a b) c 1 ∙ ap (λ x. bit_or x (c % 2)) (or_mod a b 1))
    (λ a b c. or_shr a (bit_or b c) 1 ∙ ap (bit_or (a / 2)) (or_shr b c 1))
    (λ a b c. or_mod a (bit_or b c) 1 ∙ ap (bit_or (a % 2)) (or_mod b c 1))
    (λ b c. refl) refl refl refl refl

pub or_and : (a b c : ℕ) → bit_or a (bit_and b c) ≡ bit_and (bit_or a b) (bit_or a c)
or_and =
    by_digits (λ a b c. bit_or a (bit_and b c)) (λ a b c. bit_and (bit_or a b) (bit_or a c))
    (λ a b c. or_shr a (bit_and b c) 1 ∙ ap (bit_or (a / 2)) (and_shr b c 1))
    (λ a b c. or_mod a (bit_and b c) 1 ∙ ap (bit_or (a % 2)) (and_mod b c 1))
    (λ a b c. and_shr (bit_or a b) (bit_or a c) 1 ∙ ap₂ bit_and (or_shr a b 1) (or_shr a c 1))
    (λ a b c. and_mod (bit_or a b) (bit_or a c) 1 ∙ ap₂ bit_and (or_mod a b 1) (or_mod a c 1))
    (λ b c. refl) refl refl refl refl

pub and_ones : (a : ℕ) → a < 2 ^ 32 → bit_and 4294967295 a ≡ a
and_ones a h = and_comm 4294967295 a ∙ and_mask a 32 ∙ mod-eq_of_lt h

pub or_ones : (a : ℕ) → a < 2 ^ 32 → bit_or 4294967295 a ≡ 4294967295
or_ones a h = omega (arith, or_add_and 4294967295 a, and_ones a h)
