-- The search for the least m of 1 or more with L(m + 1) = L(m) finds it.
use Rattle.std.proofs.Common.{◌≡◌, ℕ, suc, ◌+◌, ◌<◌, true, List, sym, ◌∙◌, subst, true≢false, arith}
use native.Mathlib.Decide.{dec_lt}
use Rattle.labels.specs.Algebra.{Ops, Laws, Absorbs, Exact}
use Rattle.paths.specs.Chains.{Arc, Mem, L, Still}
use Rattle.paths.specs.Tables.{is_still, rounds_made, LeastStill}
use Rattle.paths.proofs.Cut.{L_all}
use Rattle.paths.proofs.Tests.{every_sound, every_full, first_after, first_passes, first_least}

module _ {K : Type 0} (o : Ops K) (exact : Exact o) (arcs : List (Arc K)) (n : ℕ) where
  still_sound : (m : ℕ) → is_still o arcs n m ≡ true → Still o arcs n m
  still_sound m e i j hi hj = exact.sound _ _ (every_sound _ n (every_sound _ n e i hi) j hj)

  still_full : (m : ℕ) → Still o arcs n m → is_still o arcs n m ≡ true
  still_full m s = every_full _ n (λ i hi. every_full _ n (λ j hj.
      subst (λ x. o.same (L o arcs (suc m) i j) x ≡ true) (s i j hi hj) (exact.full (L o arcs (suc m) i j))))

  pub least_one : (p q : ℕ) → LeastStill o arcs n p → LeastStill o arcs n q → p ≡ q
  least_one p q a b = go (dec_lt p q) (dec_lt q p)
    where
      go : Dec (p < q) → Dec (q < p) → p ≡ q
      go (yes lt) d = absurd (b.least p a.some lt a.still)
      go (no ge) (yes lt) = absurd (a.least q b.some lt b.still)
      go (no ge) (no le) = omega arith

  module _ (laws : Laws o) (absorbs : Absorbs o) (ends : (a : Arc K) → Mem a arcs → a.to < n) where
    pub rounds_least : LeastStill o arcs n (rounds_made o arcs n)
    rounds_least = record {
      some = first_after (is_still o arcs n) n 1;
      still = still_sound (rounds_made o arcs n) (first_passes (is_still o arcs n) n 1 (still_full (n + 1) last));
      least = λ k one lt s. true≢false (sym (still_full k s) ∙ first_least (is_still o arcs n) n 1 k one lt);
    }
      where
        last : Still o arcs n (n + 1)
        last i j hi hj = L_all o laws absorbs arcs n ends (suc (n + 1)) (omega arith) i j ∙ sym (L_all o laws absorbs arcs n ends (n + 1) (omega arith) i j)

    pub rounds_are : (m : ℕ) → LeastStill o arcs n m → m ≡ rounds_made o arcs n
    rounds_are m least = least_one m (rounds_made o arcs n) least rounds_least
