-- What a label kind has, and the laws that it owes for all its labels.
use Rattle.std.specs.Prelude.{◌≡◌, ℕ, Bool, true, Some, Option, ◌≢◌}

pub record Ops (M : Type 0) : Type 0 where
  pub none : M
  pub whole : M
  pub join : M → M → M
  pub extend : M → M → M
  pub same : M → M → Bool

pub record Laws {M : Type 0} (o : Ops M) : Type 0 where
  pub join_assoc : (a b c : M) → o.join (o.join a b) c ≡ o.join a (o.join b c)
  pub join_comm : (a b : M) → o.join a b ≡ o.join b a
  pub join_none : (a : M) → o.join o.none a ≡ a
  pub extend_assoc : (a b c : M) → o.extend (o.extend a b) c ≡ o.extend a (o.extend b c)
  pub whole_left : (a : M) → o.extend o.whole a ≡ a
  pub whole_right : (a : M) → o.extend a o.whole ≡ a
  pub none_left : (a : M) → o.extend o.none a ≡ o.none
  pub none_right : (a : M) → o.extend a o.none ≡ o.none
  pub spread_left : (a b c : M) → o.extend a (o.join b c) ≡ o.join (o.extend a b) (o.extend a c)
  pub spread_right : (a b c : M) → o.extend (o.join a b) c ≡ o.join (o.extend a c) (o.extend b c)

-- whole absorbs under join
abbrev pub Absorbs : {M : Type 0} → Ops M → Type 0
Absorbs {M} o = (a : M) → o.join o.whole a ≡ o.whole

-- the test of equality answers true exactly where the two are equal
pub record Exact {M : Type 0} (o : Ops M) : Type 0 where
  pub sound : (a b : M) → o.same a b ≡ true → a ≡ b
  pub full : (a : M) → o.same a a ≡ true

-- no word names none
abbrev pub Unnamed : {M : Type 0} → Ops M → (ℕ → Option M) → Type 0
Unnamed o named = (w : ℕ) → named w ≢ Some o.none
