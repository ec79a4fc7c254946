-- A choice by a test on numbers, where the test is known.
use Rattle.std.proofs.Common.{◌≡◌, ℕ, ◌+◌, ◌<◌, ◌≤◌, cond, eqb, ltb, ◌≢◌, sym, ◌∙◌, arith, le-ltb, lt-ltb, eq-eqb, ne_eqb}
use native.Mathlib.Decide.{dec_lt}
use Rattle.std.proofs.lemmas.Bool.{cond-true, cond-false}

module _ {M : Type 0} where
  pub here : (i j : ℕ) (x y : M) → i ≡ j → cond (eqb i j) x y ≡ x
  here i j x y e = cond-true (eqb i j) x y (eq-eqb i j e)

  pub elsewhere : (i j : ℕ) (x y : M) → i ≢ j → cond (eqb i j) x y ≡ y
  elsewhere i j x y ne = cond-false (eqb i j) x y (ne_eqb i j ne)

  pub below : (i r : ℕ) (x y : M) → i < r → cond (ltb i r) x y ≡ x
  below i r x y h = cond-true (ltb i r) x y (lt-ltb i r h)

  pub from : (i r : ℕ) (x y : M) → r ≤ i → cond (ltb i r) x y ≡ y
  from i r x y h = cond-false (ltb i r) x y (le-ltb i r h)

  -- one more changes only its own place
  pub beside : (i r : ℕ) (x y : M) → i ≢ r → cond (ltb i r) x y ≡ cond (ltb i (r + 1)) x y
  beside i r x y ne = go (dec_lt i r)
    where
      go : Dec (i < r) → cond (ltb i r) x y ≡ cond (ltb i (r + 1)) x y
      go (yes h) = below i r x y h ∙ sym (below i (r + 1) x y (omega arith))
      go (no h) = from i r x y (omega arith) ∙ sym (from i (r + 1) x y (omega arith))
