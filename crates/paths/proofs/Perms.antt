-- The order of the arcs does not matter. No absorption is used.
use Rattle.std.proofs.Common.{◌≡◌, ℕ, zero, suc, cond, eqb, List, sym, refl, ap, ◌∙◌, ap₂}
use mathlib.Core.List.{Permᴰ}
use Rattle.labels.specs.Algebra.{Ops, Laws}
use Rattle.paths.specs.Chains.{Arc, join_over, L}
use Rattle.paths.proofs.Joins.{over_cong}
use Rattle.paths.proofs.Steps.{just, just_zero, just_suc, L_suc}

module _ {K : Type 0} (o : Ops K) (laws : Laws o) where
  pub over_perm : {A : Type 0} (f : A → K) {xs ys : List A} → Permᴰ xs ys → join_over o f xs ≡ join_over o f ys
  over_perm f Permᴰ.nil = refl
  over_perm f (Permᴰ.cons e p) = ap₂ o.join (ap f e) (over_perm f p)
  over_perm f (Permᴰ.swap {a = a} {b = b} {l = l} e e') =
      sym (laws.join_assoc (f a) (f b) (join_over o f l)) ∙ ap (λ z. o.join z (join_over o f l)) (laws.join_comm (f a) (f b))
      ∙ laws.join_assoc (f b) (f a) (join_over o f l) ∙ ap₂ (λ x y. o.join (f x) (o.join (f y) (join_over o f l))) e' e
  over_perm f (Permᴰ.trans p q) = over_perm f p ∙ over_perm f q

  just_perm : (xs ys : List (Arc K)) → Permᴰ xs ys → (m i j : ℕ) → just o xs m i j ≡ just o ys m i j
  just_perm xs ys p zero i j = just_zero o laws xs i j ∙ sym (just_zero o laws ys i j)
  just_perm xs ys p (suc m) i j =
      just_suc o laws xs m i j
      ∙ over_cong o laws _ _ xs (λ a _. ap (λ x. cond (eqb a.from i) (o.extend a.label x) o.none) (just_perm xs ys p m a.to j))
      ∙ over_perm (λ a. cond (eqb a.from i) (o.extend a.label (just o ys m a.to j)) o.none) p
      ∙ sym (just_suc o laws ys m i j)

  pub L_perm : (xs ys : List (Arc K)) → Permᴰ xs ys → (m i j : ℕ) → L o xs m i j ≡ L o ys m i j
  L_perm xs ys p zero i j = refl
  L_perm xs ys p (suc m) i j =
      L_suc o laws xs m i j ∙ ap₂ o.join (L_perm xs ys p m i j) (just_perm xs ys p (suc m) i j) ∙ sym (L_suc o laws ys m i j)
