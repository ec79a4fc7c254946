-- Tables of exactly n × n cells, and what a closing leaves of a longer one.
use Rattle.std.proofs.Common.{◌≡◌, ℕ, ◌*◌, ◌<◌, Bool, true, false, cond, ◌||◌, inl, inr, List, [], ◌∷◌, length, take, drop, is_ok, Ok, Err, Result, sym, ap, ◌∙◌, subst, true≢false}
use Rattle.std.proofs.lemmas.List.{take_at}
use Rattle.labels.specs.Algebra.{Ops, Laws, Absorbs, Exact}
use Rattle.paths.specs.declared.arc.Arc.{Arc}
use Rattle.paths.specs.Chains.{Mem, L}
use Rattle.paths.specs.Tables.{cell, Shows, eliminated, LeastStill, rounds_made}
use Rattle.paths.specs.Closures.{Closure}
use Rattle.paths.proofs.Written.{shown, length_table}
use Rattle.paths.proofs.Eliminated.{eliminated_all}
use Rattle.paths.proofs.Least.{rounds_are, rounds_least}
use Rattle.paths.proofs.Closures.{closure}
use Rattle.catalogue.specs.Meanings.{Meaning, Sound, in_force}
use Rattle.tables.proofs.InForce.{in_force_to}
use Rattle.tables.specs.Closings.{labels, closed, closing_leaves, short, rounds_answer, Agree}

module _ {K : Type 0} (o : Ops K) (m : Meaning K) where
  -- the first n × n cells that an accepted closing leaves
  labels_left : {A : Type 0} (answer : Result A ℕ) (old new : List K) → new ≡ closing_leaves o m answer old → is_ok answer ≡ true
      → take (m.n * m.n) new ≡ labels o m
  labels_left answer old new left ok =
      ap (take (m.n * m.n)) (left ∙ ap (λ b. cond b (closed o m old) old) ok)
      ∙ take_at (labels o m) (drop (m.n * m.n) old) (m.n * m.n) (length_table m.n (L o (in_force m) m.n))

  pub three_agree : {A B C : Type 0} (first : Result A ℕ) (second : Result B ℕ) (third : Result C ℕ) (old old' old'' new new' new'' : List K)
      → new ≡ closing_leaves o m first old → new' ≡ closing_leaves o m second old' → new'' ≡ closing_leaves o m third old''
      → Agree m.n ((is_ok first, new) ∷ (is_ok second, new') ∷ (is_ok third, new'') ∷ [])
  three_agree first second third old old' old'' new new' new'' p q r a b in_a in_b ok_a ok_b = left a in_a ok_a ∙ sym (left b in_b ok_b)
    where
      left : (c : Bool × List K) → Mem c ((is_ok first, new) ∷ (is_ok second, new') ∷ (is_ok third, new'') ∷ []) → c.0 ≡ true → take (m.n * m.n) c.1 ≡ labels o m
      left c (inl e) ok = ap (λ x. take (m.n * m.n) x.1) e ∙ labels_left first old new p (sym (ap (λ x. x.0) e) ∙ ok)
      left c (inr (inl e)) ok = ap (λ x. take (m.n * m.n) x.1) e ∙ labels_left second old' new' q (sym (ap (λ x. x.0) e) ∙ ok)
      left c (inr (inr (inl e))) ok = ap (λ x. take (m.n * m.n) x.1) e ∙ labels_left third old'' new'' r (sym (ap (λ x. x.0) e) ∙ ok)
      left c (inr (inr (inr z))) ok = elim z [ ]

module _ {K : Type 0} (o : Ops K) (m : Meaning K) (sound : Sound o m) where
  ends : (a : Arc K) → Mem a (in_force m) → a.to < m.n
  ends = in_force_to m o sound

  module _ (laws : Laws o) (absorbs : Absorbs o) where
    pub eliminated_is : (start cells : List K) → length cells ≡ m.n * m.n → Shows o m.n start (L o (in_force m) 1)
        → Shows o m.n cells (eliminated o (cell o m.n start) m.n) → cells ≡ labels o m
    eliminated_is start cells square first made =
        shown o m.n cells (L o (in_force m) m.n) square (eliminated_all o laws absorbs (in_force m) m.n ends start cells first made)

    pub closure_left : {A : Type 0} (answer : Result A ℕ) (old new : List K) → new ≡ closing_leaves o m answer old → is_ok answer ≡ true
        → Closure o (in_force m) m.n (take (m.n * m.n) new)
    closure_left answer old new left ok =
        closure o laws absorbs (in_force m) m.n ends (take (m.n * m.n) new) (labels_left o m answer old new left ok)

    pub rounds_are_made : Exact o → (cells : List K) (r : ℕ) → length cells ≡ m.n * m.n
        → Shows o m.n cells (L o (in_force m) m.n) × LeastStill o (in_force m) m.n r → (cells ≡ labels o m) × (r ≡ rounds_made o (in_force m) m.n)
    rounds_are_made exact cells r square last = (
      shown o m.n cells (L o (in_force m) m.n) square last.0,
      rounds_are o exact (in_force m) m.n laws absorbs ends r last.1,
    )

    pub least_answered : Exact o → (answer : Result ℕ ℕ) (a b c : ℕ) → answer ≡ rounds_answer o m a b c → (k : ℕ) → answer ≡ Ok k → LeastStill o (in_force m) m.n k
    least_answered exact answer a b c is k ok = go (short m.n a || (short m.n b || short m.n c)) (sym is ∙ ok)
      where
        made : Result ℕ ℕ → Type 0
        made (Ok v) = LeastStill o (in_force m) m.n v
        made (Err v) = Unit {0}

        go : (refused : Bool) → cond {A = Result ℕ ℕ} refused (Err 13) (Ok (rounds_made o (in_force m) m.n)) ≡ Ok k → LeastStill o (in_force m) m.n k
        go true e = absurd (true≢false (sym (ap is_ok e)))
        go false e = subst made e (rounds_least o exact (in_force m) m.n laws absorbs ends)
