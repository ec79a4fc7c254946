-- Labels with equal numbers are equal, and the words that name labels.
use Rattle.std.specs.Prelude.{◌≡◌, ℕ, ◌^◌, ◌<◌, min, Bool, true, false, cond, Some, None, nat_le, refl}
use Rattle.std.specs.Bool.{then_some}
use Rattle.std.proofs.Common.{ap, sym, ◌∙◌, subst, arith, ltb-true, leb-true, leb-false}
use mathlib.Core.HLevel.{is_prop→PathP}
use Rattle.std.proofs.Math.Bridge.{le_prop}
use Rattle.labels.specs.Kinds.{names_itself, minutes_named, minutes_of, licence_named, mask_of, sum_or_none}
use Rattle.labels.specs.declared.kinds.Minutes.{Minutes}
use Rattle.labels.specs.declared.kinds.Licence.{Licence}

pub minutes_same : {x y : Minutes} → x.value ≡ y.value → x ≡ y
minutes_same {x} {y} p = λ i. record { value = p i; fits = is_prop→PathP (λ j. p j < 2 ^ 32) (λ j. le_prop) x.fits y.fits i }

pub licence_same : {x y : Licence} → x.mask ≡ y.mask → x ≡ y
licence_same {x} {y} p = λ i. record { mask = p i; fits = is_prop→PathP (λ j. p j < 2 ^ 32) (λ j. le_prop) x.fits y.fits i }

pub sum_is_min : (n : ℕ) → sum_or_none n ≡ min n 4294967295
sum_is_min n = go (nat_le n 4294967294) refl
  where
    go : (b : Bool) → nat_le n 4294967294 ≡ b → cond b n 4294967295 ≡ min n 4294967295
    go true t = omega (arith, leb-true n 4294967294 t)
    go false t = omega (arith, leb-false n 4294967294 t)

-- a time is the one that its number names
pub minutes_is : (m : Minutes) → m ≡ minutes_of m.value
minutes_is m = minutes_same (sym (sum_is_min m.value ∙ omega (arith, m.fits)))

pub minutes_read : (w : ℕ) (m : Minutes) → true ≡ names_itself w → m.value ≡ w → Some m ≡ minutes_named w
minutes_read w m t e =
    subst (λ b. Some m ≡ cond b (Some (minutes_of w)) None) t
    (ap Some (minutes_same (simp sum_is_min (omega (arith, ltb-true w 4294967295 (sym t))))))

pub licence_read : (w : ℕ) (m : Licence) → true ≡ names_itself w → m.mask ≡ w → Some m ≡ licence_named w
licence_read w m t e =
    subst (λ b. Some m ≡ cond b (Some (mask_of w)) None) t
    (ap Some (licence_same (omega (arith, ltb-true w 4294967295 (sym t)))))

-- a label kept where its word names itself is the label that the word names
named_then : {M : Type 0} (w : ℕ) (m named : M) → (true ≡ names_itself w → Some m ≡ cond (names_itself w) (Some named) None) → then_some (names_itself w) m ≡ cond (names_itself w) (Some named) None
named_then {M} w m named read = go (names_itself w) refl
  where
    go : (b : Bool) → names_itself w ≡ b → then_some b m ≡ cond b (Some named) None
    go true t = subst (λ b. Some m ≡ cond b (Some named) None) t (read (sym t))
    go false t = refl

pub minutes_then : (w : ℕ) (m : Minutes) → m.value ≡ w → then_some (names_itself w) m ≡ minutes_named w
minutes_then w m e = named_then w m (minutes_of w) (λ t. minutes_read w m t e)

pub licence_then : (w : ℕ) (m : Licence) → m.mask ≡ w → then_some (names_itself w) m ≡ licence_named w
licence_then w m e = named_then w m (mask_of w) (λ t. licence_read w m t e)
