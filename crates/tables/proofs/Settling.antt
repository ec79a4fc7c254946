-- What was found is joined to the cells one after the other.
use Rattle.std.proofs.Common.{◌≡◌, ℕ, ◌+◌, ◌<◌, ◌≤◌, Bool, true, false, cond, not, ◌||◌, ◌≢◌, List, length, get_or, set, sym, refl, ap, ◌∙◌, ap₂, true≢false, arith, get_or-set_other, get_or-set_same, below_more}
use Rattle.std.proofs.lemmas.Bool.{not-false, or_parts}
use Rattle.std.proofs.lemmas.List.{get_or_default}
use Rattle.labels.specs.Algebra.{Ops, Laws, Absorbs, Exact}
use Rattle.paths.proofs.Joins.{none_join}
use Rattle.paths.proofs.Order.{under_refl}
use Rattle.tables.specs.Settling.{Settled}

-- the cells below u are settled, the others are as they were
pub record Swept {K : Type 0} (o : Ops K) (were ways cells changed found : List K) (u : ℕ) (moved : Bool) : Type 0 where
  pub settled : Settled o were ways cells changed found u moved
  pub cells_later : (v : ℕ) → u ≤ v → get_or cells v o.none ≡ get_or were v o.none
  pub found_later : (v : ℕ) → u ≤ v → get_or found v o.none ≡ get_or ways v o.none

second_true : (a b : Bool) → (a || b) ≡ true → (a ≡ true → ⊥) → b ≡ true
second_true true b e n = absurd (n refl)
second_true false b e n = e

module _ {K : Type 0} (o : Ops K) where
  module _ (laws : Laws o) (absorbs : Absorbs o) (exact : Exact o) where
    told_here : (r : Bool) (old way : K) → r ≡ not (o.same (o.join old way) old) → o.join old (cond r (o.join old way) o.none) ≡ o.join old way
    told_here true old way d = sym (laws.join_assoc old old way) ∙ ap (λ x. o.join x way) (under_refl o laws absorbs old)
    told_here false old way d = none_join o laws old ∙ sym (exact.sound (o.join old way) old (not-false _ (sym d)))

    -- one more cell, where x is the new label, y what is kept of it and z what stays found
    module _ (were ways cells changed found : List K) (u : ℕ) (was way x y z : K) (moved here : Bool)
        (in_cells : u < length cells) (in_changed : u < length changed) (in_found : u < length found)
        (swept : Swept o were ways cells changed found u moved)
        (p : x ≡ o.join (get_or cells u was) (get_or found u way))
        (q : y ≡ cond here (o.join (get_or cells u was) (get_or found u way)) o.none)
        (r : z ≡ o.none)
        (s : here ≡ not (o.same (o.join (get_or cells u was) (get_or found u way)) (get_or cells u was))) where
      old : get_or cells u was ≡ get_or were u o.none
      old = get_or_default cells u was o.none in_cells ∙ swept.cells_later u (omega arith)

      ahead : get_or found u way ≡ get_or ways u o.none
      ahead = get_or_default found u way o.none in_found ∙ swept.found_later u (omega arith)

      new : get_or (set cells u x) u o.none ≡ o.join (get_or cells u was) (get_or found u way)
      new = get_or-set_same cells u x o.none in_cells ∙ p

      other : (v : ℕ) → v ≢ u → get_or (set cells u x) v o.none ≡ get_or cells v o.none
      other v ne = get_or-set_other cells u v x o.none ne

      -- a cell that stays as it was
      as_was : get_or (set cells u x) u o.none ≡ get_or were u o.none → here ≡ false
      as_was e = s ∙ ap not (ap (λ l. o.same l (get_or cells u was)) (sym new ∙ e ∙ sym old) ∙ exact.full (get_or cells u was))

      pub swept_more : Swept o were ways (set cells u x) (set changed u y) (set found u z) (u + 1) (moved || here)
      swept_more = record {
        settled = record {
          joined = below_more (λ v. get_or (set cells u x) v o.none ≡ o.join (get_or were v o.none) (get_or ways v o.none)) u
              (λ v h. other v (omega arith) ∙ swept.settled.joined v h) (new ∙ ap₂ o.join old ahead);
          told = below_more (λ v. o.join (get_or were v o.none) (get_or (set changed u y) v o.none) ≡ get_or (set cells u x) v o.none) u
              (λ v h. ap (o.join (get_or were v o.none)) (get_or-set_other changed u v y o.none (omega arith)) ∙ swept.settled.told v h ∙ sym (other v (omega arith)))
              (ap₂ o.join (sym old) (get_or-set_same changed u y o.none in_changed ∙ q) ∙ told_here here _ _ s ∙ sym new);
          clean = below_more (λ v. get_or (set found u z) v o.none ≡ o.none) u
              (λ v h. get_or-set_other found u v z o.none (omega arith) ∙ swept.settled.clean v h) (get_or-set_same found u z o.none in_found ∙ r);
          still = λ e. let f = or_parts moved here e in
              below_more (λ v. get_or (set cells u x) v o.none ≡ get_or were v o.none) u
              (λ v h. other v (omega arith) ∙ swept.settled.still f.0 v h)
              (new ∙ exact.sound _ _ (not-false _ (sym s ∙ f.1)) ∙ old);
          stirred = λ e all.
              let here_true : here ≡ true = second_true moved here e (λ t. swept.settled.stirred t (λ v h. sym (other v (omega arith)) ∙ all v (omega arith))) in
              true≢false (sym here_true ∙ as_was (all u (omega arith)));
        };
        cells_later = λ v h. other v (omega arith) ∙ swept.cells_later v (omega arith);
        found_later = λ v h. get_or-set_other found u v z o.none (omega arith) ∙ swept.found_later v (omega arith);
      }
