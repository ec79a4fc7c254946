-- What closing by order answers, once the packages are sorted.
use Rattle.std.proofs.Common.{◌≡◌, ℕ, ◌≤◌, Bool, true, false, cond, not, List, length, take, Ok, Err, Result, is_ok, sym, refl, ap, ◌∙◌, true≢false}
use Rattle.labels.specs.Algebra.{Ops}
use Rattle.paths.specs.Groups.{looped, Loop, LoopTold}
use Rattle.paths.proofs.Groups.{loop_told}
use Rattle.catalogue.specs.Meanings.{Meaning, Sound, in_force}
use Rattle.graphs.specs.Records.{PackageRecord, own_names, Sorted}
use Rattle.graphs.specs.Searches.{Rising, Lists}
use Rattle.graphs.specs.Orders.{EndsFirst}
use Rattle.graphs.proofs.Edges.{ends, apart}
use Rattle.graphs.proofs.Named.{straight, no_loop_is}
use Rattle.graphs.proofs.Ordered.{ends_first}

module _ {K : Type 0} (o : Ops K) (m : Meaning K) (sound : Sound o m) where
  pub loops_told : LoopTold (in_force m) m.n (looped (in_force m) m.n)
  loops_told = loop_told (in_force m) m.n (ends m o sound)

  module _ (old new : List PackageRecord) (sorted : Sorted (in_force m) m.n old new) (many : m.n ≤ length new) where
    -- what the test for loops tells
    named : own_names (take m.n new) ≡ not (looped (in_force m) m.n)
    named = no_loop_is (in_force m) m.n (ends m o sound) old new sorted many (apart m o sound)

    -- the answer to it
    module _ (k : ℕ) (count : k ≡ m.n) (answer : Result (Unit {0}) ℕ) (is : answer ≡ cond (own_names (take k new)) (Ok tt) (Err 14)) where
      pub loop_answer : answer ≡ cond (looped (in_force m) m.n) (Err 14) (Ok tt)
      loop_answer = is ∙ ap (λ k. cond (own_names (take k new)) (Ok tt) (Err 14)) count ∙ ap (λ b. cond b (Ok tt) (Err 14)) named ∙ go (looped (in_force m) m.n)
        where
          go : (b : Bool) → cond {A = Result (Unit {0}) ℕ} (not b) (Ok tt) (Err 14) ≡ cond b (Err 14) (Ok tt)
          go true = refl
          go false = refl

      accepted : is_ok answer ≡ true → looped (in_force m) m.n ≡ false
      accepted ok = go (looped (in_force m) m.n) loop_answer
        where
          go : (b : Bool) → answer ≡ cond b (Err 14) (Ok tt) → b ≡ false
          go true e = absurd (true≢false (sym ok ∙ ap is_ok e))
          go false e = refl

      pub none_back : is_ok answer ≡ true → Loop (in_force m) → ⊥
      none_back ok = loops_told.clear (accepted ok)

      pub ends_come_first : (order : List ℕ) → Rising new order m.n → Lists order m.n → is_ok answer ≡ true → EndsFirst (in_force m) order m.n
      ends_come_first order rising lists ok = ends_first o m sound new order rising lists (straight (in_force m) m.n (ends m o sound) old new sorted (accepted ok))
