-- The changed packages are told number by number.
use Rattle.std.proofs.Common.{◌≡◌, ℕ, ◌+◌, ◌<◌, Bool, true, false, cond, List, [], ◌∷◌, drop, length, get_or, Ok, Err, Result, is_ok, refl, sym, ap, ◌∙◌, subst, inl, inr}
use Rattle.std.proofs.lemmas.List.{at_drop_more}
use Rattle.std.proofs.lemmas.Bool.{true≢false, leb-false}
use Rattle.paths.specs.Chains.{Mem}
use Rattle.catalogue.specs.Meanings.{Meaning}
use Rattle.catalogue.specs.Calls.{outside}
use Rattle.catalogue.specs.Refusals.{then}
use Rattle.plans.specs.Answers.{package_answer, changed_answer}

module _ {K : Type 0} (m : Meaning K) (xs : List ℕ) (k : ℕ) (inside : k < length xs) where
  at : changed_answer m (drop k xs) ≡ then (package_answer m (get_or xs k 0)) (λ _. changed_answer m (drop (k + 1) xs))
  at = at_drop_more (changed_answer m) xs k 0 inside

  -- one more is taken
  pub changed_more : Ok tt ≡ package_answer m (get_or xs k 0) → changed_answer m (drop k xs) ≡ changed_answer m (drop (k + 1) xs)
  changed_more e = at ∙ ap (λ r. then r (λ _. changed_answer m (drop (k + 1) xs))) (sym e)

  -- one is refused, and so is the list
  pub changed_stops : (e : ℕ) → Err e ≡ package_answer m (get_or xs k 0) → changed_answer m (drop k xs) ≡ Err e
  changed_stops e is = at ∙ ap (λ r. then r (λ _. changed_answer m (drop (k + 1) xs))) (sym is)

then_ok : (r s : Result (Unit {0}) ℕ) → then r (λ _. s) ≡ Ok tt → (r ≡ Ok tt) × (s ≡ Ok tt)
then_ok (Ok v) s e = (refl, e)
then_ok (Err k) s e = absurd (true≢false (sym (ap is_ok e)))

-- the packages of a list that is taken are below n
module _ {K : Type 0} (m : Meaning K) where
  known : (p : ℕ) → package_answer m p ≡ Ok tt → p < m.n
  known p e = go (outside m p) refl
    where
      go : (b : Bool) → outside m p ≡ b → p < m.n
      go true is = absurd (true≢false (sym (ap is_ok (sym (ap (λ b. cond b (Err 6) (cond (m.held p) (Err 15) (Ok tt))) is) ∙ e))))
      go false is = leb-false m.n p is

  pub changed_known : (xs : List ℕ) → changed_answer m xs ≡ Ok tt → (c : ℕ) → Mem c xs → c < m.n
  changed_known [] e c h = elim h [ ]
  changed_known (x ∷ xs) e c (inl is) = subst (λ y. y < m.n) (sym is) (known x (then_ok (package_answer m x) (changed_answer m xs) e).0)
  changed_known (x ∷ xs) e c (inr h) = changed_known xs (then_ok (package_answer m x) (changed_answer m xs) e).1 c h
