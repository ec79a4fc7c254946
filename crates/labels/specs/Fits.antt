-- Sums that stop at none, and that they fit 32 bits.
use Rattle.std.specs.Prelude.{◌≡◌, ℕ, ◌^◌, ◌<◌, min, Bool, true, false, cond, nat_le, refl}
use Rattle.std.proofs.Common.{arith, leb-true}

-- the number, or 4294967295 where it is above 4294967294
abbrev pub sum_or_none : ℕ → ℕ
sum_or_none n = cond (nat_le n 4294967294) n 4294967295

pub sum_fits : (n : ℕ) → sum_or_none n < 2 ^ 32
sum_fits n = go (nat_le n 4294967294) refl
  where
    go : (b : Bool) → nat_le n 4294967294 ≡ b → cond b n 4294967295 < 2 ^ 32
    go true t = omega (arith, leb-true n 4294967294 t)
    go false t = omega arith

pub min_fits : (m n : ℕ) → m < 2 ^ 32 → min m n < 2 ^ 32
min_fits m n h = omega arith

pub top_fits : (n : ℕ) → min n 4294967295 < 2 ^ 32
top_fits n = omega arith
