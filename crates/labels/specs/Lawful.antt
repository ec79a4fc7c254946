-- The laws of minutes and licence.
use Rattle.std.specs.Prelude.{◌≡◌, ℕ, ◌<◌, Bool, true, false, cond, Some, None, Option, ◌≢◌, bit_and}
use Rattle.std.proofs.Math.Path.{refl, ap}
use Rattle.std.proofs.Common.{ap₂, ◌∙◌, arith}
use Rattle.std.proofs.lemmas.Nat.{and_comm, or_comm}
use Rattle.std.specs.Int.Bits.{or_zero_r}
use borrow.Author.Tests.{ltb-true, eqb-true, eq-eqb}
use Rattle.labels.specs.Algebra.{Laws, Absorbs, Exact, Unnamed}
use Rattle.labels.specs.Kinds.{names_itself, minutes_ops, minutes_named, minutes_of, no_time, licence_ops, licence_named, mask_of, no_licence}
use Rattle.labels.specs.Alike.{minutes_same, licence_same, sum_is_min}
use Rattle.labels.specs.Masks.{and_assoc, or_assoc, or_and, and_ones, or_ones}

pub minutes_laws : Laws minutes_ops
minutes_laws = record {
  join_assoc = λ a b c. minutes_same (omega arith);
  join_comm = λ a b. minutes_same (omega arith);
  join_none = λ a. minutes_same (omega arith);
  extend_assoc = λ a b c. minutes_same (simp sum_is_min (omega arith));
  whole_left = λ a. minutes_same (simp sum_is_min (omega arith));
  whole_right = λ a. minutes_same (simp sum_is_min (omega arith));
  none_left = λ a. minutes_same (simp sum_is_min (omega arith));
  none_right = λ a. minutes_same (simp sum_is_min (omega arith));
  spread_left = λ a b c. minutes_same (simp sum_is_min (omega arith));
  spread_right = λ a b c. minutes_same (simp sum_is_min (omega arith));
}

pub minutes_absorbs : Absorbs minutes_ops
minutes_absorbs = λ a. minutes_same (omega arith)

pub minutes_exact : Exact minutes_ops
minutes_exact = record { sound = λ a b e. minutes_same (eqb-true a.value b.value e); full = λ a. eq-eqb a.value a.value refl }

-- where the word names nothing, nothing is not a label; where it names, its number is not that of none
number_in : {M : Type 0} → (M → ℕ) → Option M → ℕ
number_in f (Some m) = f m
number_in f None = 0

module _ {M : Type 0} (number : M → ℕ) (of : ℕ → M) (none : M) (top : number none ≡ 4294967295) (itself : (w : ℕ) → w < 4294967295 → number (of w) ≡ w) where
  never : (w : ℕ) → cond (names_itself w) (Some (of w)) None ≢ Some none
  unfolding number_in
  never w e = go (names_itself w) refl e
    where
      go : (b : Bool) → names_itself w ≡ b → cond b (Some (of w)) None ≢ Some none
      go true t k =
          let f : number (of w) ≡ number none = ap (number_in number) k in
          let l = ltb-true w 4294967295 t in
          omega (arith, itself w l, top)
      go false t k = let f : ◌≡◌ {A = ℕ} 0 (number none) = ap (number_in number) k in omega (arith, top)

pub minutes_unnamed : Unnamed minutes_ops minutes_named
minutes_unnamed = never (λ m. m.value) minutes_of no_time refl (λ w l. sum_is_min w ∙ omega arith)

pub licence_laws : Laws licence_ops
licence_laws = record {
  join_assoc = λ a b c. licence_same (and_assoc a.mask b.mask c.mask);
  join_comm = λ a b. licence_same (and_comm a.mask b.mask);
  join_none = λ a. licence_same (and_ones a.mask a.fits);
  extend_assoc = λ a b c. licence_same (or_assoc a.mask b.mask c.mask);
  whole_left = λ a. licence_same refl;
  whole_right = λ a. licence_same (or_zero_r a.mask);
  none_left = λ a. licence_same (or_ones a.mask a.fits);
  none_right = λ a. licence_same (or_comm a.mask 4294967295 ∙ or_ones a.mask a.fits);
  spread_left = λ a b c. licence_same (or_and a.mask b.mask c.mask);
  spread_right = λ a b c. licence_same (or_comm (bit_and a.mask b.mask) c.mask ∙ or_and c.mask a.mask b.mask ∙ ap₂ bit_and (or_comm c.mask a.mask) (or_comm c.mask b.mask));
}

pub licence_absorbs : Absorbs licence_ops
licence_absorbs = λ a. licence_same refl

pub licence_exact : Exact licence_ops
licence_exact = record { sound = λ a b e. licence_same (eqb-true a.mask b.mask e); full = λ a. eq-eqb a.mask a.mask refl }

pub licence_unnamed : Unnamed licence_ops licence_named
licence_unnamed = never (λ m. m.mask) mask_of no_licence refl (λ w l. omega arith)
