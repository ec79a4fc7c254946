-- The order of a kind that absorbs: a is under b where joining a to b changes nothing.
use Rattle.std.proofs.Common.{◌≡◌, List, [], ◌∷◌, sym, refl, ap, ◌∙◌, subst, ap₂, inl, inr}
use Rattle.labels.specs.Algebra.{Ops, Laws, Absorbs}
use Rattle.paths.specs.Chains.{Mem, join_over}
use Rattle.paths.proofs.Joins.{none_join}

abbrev pub Under : {K : Type 0} → Ops K → K → K → Type 0
Under o a b = o.join b a ≡ b

module _ {K : Type 0} (o : Ops K) (laws : Laws o) where
  pub under_trans : {a b c : K} → Under o a b → Under o b c → Under o a c
  under_trans {a} {b} {c} p q = ap (λ x. o.join x a) (sym q) ∙ laws.join_assoc c b a ∙ ap (o.join c) p ∙ q

  pub under_both : {a b : K} → Under o a b → Under o b a → a ≡ b
  under_both {a} {b} p q = sym q ∙ laws.join_comm a b ∙ p

  pub none_under : (a : K) → Under o o.none a
  none_under a = none_join o laws a

  pub join_under : {a b c : K} → Under o a c → Under o b c → Under o (o.join a b) c
  join_under {a} {b} {c} p q = sym (laws.join_assoc c a b) ∙ ap (λ x. o.join x b) p ∙ q

  pub extend_left : (a : K) {b c : K} → Under o b c → Under o (o.extend a b) (o.extend a c)
  extend_left a {b} {c} p = sym (laws.spread_left a c b) ∙ ap (o.extend a) p

  pub extend_right : {a b : K} (c : K) → Under o a b → Under o (o.extend a c) (o.extend b c)
  extend_right {a} {b} c p = sym (laws.spread_right b a c) ∙ ap (λ x. o.extend x c) p

  pub over_least : {A : Type 0} (f : A → K) (xs : List A) (b : K) → ((x : A) → Mem x xs → Under o (f x) b) → Under o (join_over o f xs) b
  over_least f [] b h = none_under b
  over_least f (x ∷ xs) b h = join_under (h x (inl refl)) (over_least f xs b (λ y m. h y (inr m)))

  module _ (absorbs : Absorbs o) where
    pub under_refl : (a : K) → Under o a a
    under_refl a =
        ap₂ o.join (sym (laws.whole_right a)) (sym (laws.whole_right a))
        ∙ sym (laws.spread_left a o.whole o.whole) ∙ ap (o.extend a) (absorbs o.whole) ∙ laws.whole_right a

    pub under_left : (a b : K) → Under o a (o.join a b)
    under_left a b = laws.join_comm (o.join a b) a ∙ sym (laws.join_assoc a a b) ∙ ap (λ x. o.join x b) (under_refl a)

    pub under_right : (a b : K) → Under o b (o.join a b)
    under_right a b = laws.join_assoc a b b ∙ ap (o.join a) (under_refl b)

    -- a longer way is no better
    pub extend_under : (a b : K) → Under o (o.extend a b) a
    extend_under a b = ap (λ x. o.join x (o.extend a b)) (sym (laws.whole_right a)) ∙ extend_left a (absorbs b) ∙ laws.whole_right a

    pub under_extend : (a b : K) → Under o (o.extend a b) b
    under_extend a b = ap (λ x. o.join x (o.extend a b)) (sym (laws.whole_left b)) ∙ extend_right b (absorbs a) ∙ laws.whole_left b

    pub over_upper : {A : Type 0} (f : A → K) (xs : List A) (x : A) → Mem x xs → Under o (f x) (join_over o f xs)
    over_upper f (y ∷ ys) x (inl e) = subst (λ z. Under o (f z) (join_over o f (y ∷ ys))) (sym e) (under_left (f y) (join_over o f ys))
    over_upper f (y ∷ ys) x (inr m) = under_trans (over_upper f ys x m) (under_right (f y) (join_over o f ys))
    over_upper f [] x m = elim m [ ]
