-- The laws of a join over a list.
use Rattle.std.proofs.Common.{◌≡◌, List, [], ◌∷◌, ◌++◌, map, sym, refl, ap, ◌∙◌, ap₂, inl, inr}
use Rattle.std.specs.List.{flat_map}
use Rattle.labels.specs.Algebra.{Ops, Laws}
use Rattle.paths.specs.Chains.{Mem, join_over}

module _ {K : Type 0} (o : Ops K) (laws : Laws o) where
  pub none_join : (a : K) → o.join a o.none ≡ a
  none_join a = laws.join_comm a o.none ∙ laws.join_none a

  pub swap : (a b c d : K) → o.join (o.join a b) (o.join c d) ≡ o.join (o.join a c) (o.join b d)
  swap a b c d =
      laws.join_assoc a b (o.join c d)
      ∙ ap (o.join a) (sym (laws.join_assoc b c d) ∙ ap (λ x. o.join x d) (laws.join_comm b c) ∙ laws.join_assoc c b d)
      ∙ sym (laws.join_assoc a c (o.join b d))

  module _ {A : Type 0} where
    pub over_append : (f : A → K) (xs ys : List A) → join_over o f (xs ++ ys) ≡ o.join (join_over o f xs) (join_over o f ys)
    over_append f [] ys = sym (laws.join_none (join_over o f ys))
    over_append f (x ∷ xs) ys = ap (o.join (f x)) (over_append f xs ys) ∙ sym (laws.join_assoc (f x) (join_over o f xs) (join_over o f ys))

    pub over_cong : (f g : A → K) (xs : List A) → ((x : A) → Mem x xs → f x ≡ g x) → join_over o f xs ≡ join_over o g xs
    over_cong f g [] h = refl
    over_cong f g (x ∷ xs) h = ap₂ o.join (h x (inl refl)) (over_cong f g xs (λ y m. h y (inr m)))

    pub over_join : (f g : A → K) (xs : List A) → join_over o (λ x. o.join (f x) (g x)) xs ≡ o.join (join_over o f xs) (join_over o g xs)
    over_join f g [] = sym (laws.join_none o.none)
    over_join f g (x ∷ xs) = ap (o.join (o.join (f x) (g x))) (over_join f g xs) ∙ swap (f x) (g x) (join_over o f xs) (join_over o g xs)

    pub extend_over : (a : K) (f : A → K) (xs : List A) → o.extend a (join_over o f xs) ≡ join_over o (λ x. o.extend a (f x)) xs
    extend_over a f [] = laws.none_right a
    extend_over a f (x ∷ xs) = laws.spread_left a (f x) (join_over o f xs) ∙ ap (o.join (o.extend a (f x))) (extend_over a f xs)

    pub over_extend : (f : A → K) (xs : List A) (a : K) → o.extend (join_over o f xs) a ≡ join_over o (λ x. o.extend (f x) a) xs
    over_extend f [] a = laws.none_left a
    over_extend f (x ∷ xs) a = laws.spread_right (f x) (join_over o f xs) a ∙ ap (o.join (o.extend (f x) a)) (over_extend f xs a)

  module _ {A B : Type 0} where
    pub over_map : (f : B → K) (g : A → B) (xs : List A) → join_over o f (map g xs) ≡ join_over o (λ x. f (g x)) xs
    over_map f g [] = refl
    over_map f g (x ∷ xs) = ap (o.join (f (g x))) (over_map f g xs)

    pub over_flat_map : (f : B → K) (g : A → List B) (xs : List A) → join_over o f (flat_map g xs) ≡ join_over o (λ x. join_over o f (g x)) xs
    over_flat_map f g [] = refl
    over_flat_map f g (x ∷ xs) = over_append f (g x) (flat_map g xs) ∙ ap (o.join (join_over o f (g x))) (over_flat_map f g xs)
