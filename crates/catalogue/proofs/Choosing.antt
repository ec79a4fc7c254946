-- Tests and choices.
use Rattle.std.proofs.Common.{◌≡◌, Bool, true, false, cond, List, [], ◌∷◌, map, filter, sym, refl, ap, ◌∙◌}

-- a function over a choice
pub over_cond : {A B : Type 0} (f : A → B) (b : Bool) (x y : A) → f (cond b x y) ≡ cond b (f x) (f y)
over_cond f true x y = refl
over_cond f false x y = refl

pub kept_by_map : {A B : Type 0} (p : B → Bool) (f : A → B) (xs : List A) → filter p (map f xs) ≡ map f (filter (λ x. p (f x)) xs)
kept_by_map p f [] = refl
kept_by_map p f (x ∷ xs) =
    ap (λ r. cond (p (f x)) (f x ∷ r) r) (kept_by_map p f xs) ∙ sym (over_cond (map f) (p (f x)) (x ∷ filter (λ y. p (f y)) xs) (filter (λ y. p (f y)) xs))
