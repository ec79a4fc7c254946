-- The check of a pair.
use Rattle.std.proofs.Common.{◌≡◌, ℕ, ◌+◌, ◌-◌, ◌%◌, ◌<◌, ◌≤◌, Bool, true, false, cond, ◌&&◌, eqb, leb, List, map, length, sym, refl, ap, ◌∙◌, add-one, arith}
use Rattle.std.proofs.lemmas.Bool.{eq-eqb, le-leb, eqb-true, leb-true}
use Rattle.std.specs.List.{range_with_len}
use Rattle.sheets.specs.Sheets.{offset_of, size_of, due, pair_check, pair_checks, first_unmet, count_of}
use Rattle.sheets.proofs.Checks.{unmet_met, unmet_here, counting_more, met_each}

module _ (bytes : List ℕ) (p : ℕ) where
  pub record PairOk : Type 0 where
    pub placed : offset_of bytes p ≡ due bytes p
    pub whole : size_of bytes p % 8 ≡ 0
    pub inside : offset_of bytes p + size_of bytes p ≤ length bytes

  pub pair_met : PairOk → pair_check bytes p ≡ 0
  pair_met ok =
      let a = eq-eqb (offset_of bytes p) (due bytes p) ok.placed in
      let b = eq-eqb (size_of bytes p % 8) 0 ok.whole in
      let c = le-leb (offset_of bytes p + size_of bytes p) (length bytes) ok.inside in
      simp (a, b, c)

  pub pair_ok : pair_check bytes p ≡ 0 → PairOk
  pair_ok e = go (eqb (offset_of bytes p) (due bytes p)) (eqb (size_of bytes p % 8) 0) (leb (offset_of bytes p + size_of bytes p) (length bytes)) refl refl refl e
    where
      go : (x y z : Bool) → eqb (offset_of bytes p) (due bytes p) ≡ x → eqb (size_of bytes p % 8) 0 ≡ y → leb (offset_of bytes p + size_of bytes p) (length bytes) ≡ z → ◌≡◌ {A = ℕ} (cond (x && (y && z)) 0 3) 0 → PairOk
      go true true true a b c h = record { placed = eqb-true _ _ a; whole = eqb-true _ _ b; inside = leb-true _ _ c }
      go true true false a b c h = absurd (omega arith)
      go true false z a b c h = absurd (omega arith)
      go false y z a b c h = absurd (omega arith)

  pub due_next : due bytes (p + 1) ≡ offset_of bytes p + size_of bytes p
  due_next = rw add-one refl

  -- the loop's step and stop
  module _ (n : ℕ) (h : p < n) where
    pub pairs_more : PairOk → first_unmet (map (pair_check bytes) (range_with_len p (n - p))) ≡ first_unmet (map (pair_check bytes) (range_with_len (p + 1) (n - (p + 1))))
    pairs_more ok = ap (λ xs. first_unmet (map (pair_check bytes) xs)) (counting_more p n h) ∙ unmet_met (pair_check bytes p) _ (pair_met ok)

    pub pairs_stop : pair_check bytes p ≡ 3 → first_unmet (map (pair_check bytes) (range_with_len p (n - p))) ≡ 3
    pairs_stop e = ap (λ xs. first_unmet (map (pair_check bytes) xs)) (counting_more p n h) ∙ unmet_here (pair_check bytes p) 2 _ e ∙ e

pub pairs_ok : (bytes : List ℕ) → first_unmet (pair_checks bytes) ≡ 0 → (p : ℕ) → p < count_of bytes → PairOk bytes p
pairs_ok bytes e p h =
    let z : 0 + p ≡ p = omega arith in
    pair_ok bytes p (ap (pair_check bytes) (sym z) ∙ met_each (pair_check bytes) 0 (count_of bytes) e p h)
