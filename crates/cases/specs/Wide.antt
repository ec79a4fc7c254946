-- The laws of width.
use Rattle.std.specs.Prelude.{◌≡◌, ℕ, ◌^◌, ◌<◌, min, Bool, true, false, cond, Some, None, Option, not, ◌==◌, ◌≢◌, refl}
use Rattle.std.specs.Bool.{then_some}
use Rattle.std.proofs.Common.{ap, sym, subst, arith, eqb-true, eq-eqb}
use mathlib.Core.HLevel.{is_prop→PathP}
use Rattle.std.proofs.Math.Bridge.{le_prop}
use Rattle.std.proofs.lemmas.Bool.{eqb-false}
use Rattle.labels.specs.Algebra.{Laws, Absorbs, Exact, Unnamed}
use Rattle.cases.specs.Widths.{width_ops, width_named, width_of, no_width}
use Rattle.cases.specs.declared.width.Width.{Width}

pub width_same : {x y : Width} → x.value ≡ y.value → x ≡ y
width_same {x} {y} p = λ i. record { value = p i; fits = is_prop→PathP (λ j. p j < 2 ^ 32) (λ j. le_prop) x.fits y.fits i }

pub width_laws : Laws width_ops
width_laws = record {
  join_assoc = λ a b c. width_same (omega arith);
  join_comm = λ a b. width_same (omega arith);
  join_none = λ a. width_same (omega arith);
  extend_assoc = λ a b c. width_same (omega arith);
  whole_left = λ a. width_same (omega arith);
  whole_right = λ a. width_same (omega arith);
  none_left = λ a. width_same (omega arith);
  none_right = λ a. width_same (omega arith);
  spread_left = λ a b c. width_same (omega arith);
  spread_right = λ a b c. width_same (omega arith);
}

pub width_absorbs : Absorbs width_ops
width_absorbs = λ a. width_same (omega arith)

pub width_exact : Exact width_ops
width_exact = record { sound = λ a b e. width_same (eqb-true a.value b.value e); full = λ a. eq-eqb a.value a.value refl }

-- the number of a width, or 1 where there is none
number_in : Option Width → ℕ
number_in (Some x) = x.value
number_in None = 1

pub width_unnamed : Unnamed width_ops width_named
unfolding number_in
width_unnamed w e = go (w == 0) refl e
  where
    go : (b : Bool) → (w == 0) ≡ b → cond b None (Some (width_of w)) ≢ Some no_width
    go true t k = let f : ◌≡◌ {A = ℕ} 1 0 = ap number_in k in omega arith
    go false t k = let f : min w 4294967295 ≡ 0 = ap number_in k in let n = eqb-false w 0 t in omega (arith, n)

pub width_read : (w : ℕ) (x : Width) → (w == 0) ≡ false → x.value ≡ w → Some x ≡ width_named w
width_read w x t e = subst (λ b. Some x ≡ cond b None (Some (width_of w))) (sym t) (ap Some (width_same (omega (arith, x.fits))))

-- a width kept where its word is not 0 is the width that the word names
pub width_then : (w : ℕ) (x : Width) → x.value ≡ w → then_some (not (w == 0)) x ≡ width_named w
width_then w x e = go (w == 0) refl
  where
    go : (b : Bool) → (w == 0) ≡ b → then_some (not b) x ≡ cond b None (Some (width_of w))
    go true t = refl
    go false t = subst (λ b. Some x ≡ cond b None (Some (width_of w))) t (width_read w x t e)
