-- The row of a package's places holds its arcs in force, each once: a join over the row is a join over these arcs.
use Rattle.std.proofs.Common.{◌≡◌, ℕ, zero, suc, true, false, cond, eqb, [], ◌∷◌, length, Some, None, filter, Option, sym, refl, ap, ◌∙◌, ap₂, add-one, arith, take_all}
use Rattle.std.specs.Option.{option_to_list}
use Rattle.labels.specs.Algebra.{Ops, Laws}
use Rattle.paths.specs.declared.arc.Arc.{Arc}
use Rattle.paths.specs.Chains.{join_over}
use Rattle.paths.proofs.Joins.{over_append, none_join}
use Rattle.catalogue.specs.Meanings.{Meaning, free_ends, in_force}
use Rattle.catalogue.specs.Calls.{arc_at}
use Rattle.tables.proofs.InForce.{first_arcs, next}
use Rattle.graphs.specs.Rows.{places, given, row_of}

-- what f gives for an arc, and none where there is none
abbrev pub value : {K : Type 0} → Ops K → (Arc K → K) → Option (Arc K) → K
value o f None = o.none
value o f (Some a) = f a

module _ {K : Type 0} (o : Ops K) (laws : Laws o) (m : Meaning K) (f : Arc K → K) (p : ℕ) where
  one : (k : ℕ) (x : Option (Arc K)) → x ≡ arc_at m k
      → join_over o (λ j. value o f (arc_at m j)) (given (arc_at m) places p k x) ≡ join_over o (λ a. cond (eqb a.from p) (f a) o.none) (option_to_list x)
  one k None e = refl
  one k (Some a) e =
      elim (eqb a.from p) as (λ b. join_over o (λ j. value o f (arc_at m j)) (cond b (k ∷ []) []) ≡ o.join (cond b (f a) o.none) o.none)
      [ true ↦ ap (λ y. o.join (value o f y) o.none) (sym e) | false ↦ sym (none_join o laws o.none) ]

  upto : (k : ℕ) → join_over o (λ j. value o f (arc_at m j)) (row_of (arc_at m) places p k) ≡ join_over o (λ a. cond (eqb a.from p) (f a) o.none) (first_arcs m k)
  upto zero = refl
  upto (suc k) =
      let g : ℕ → K = λ j. value o f (arc_at m j) in
      let h : Arc K → K = λ a. cond (eqb a.from p) (f a) o.none in
      over_append o laws g (row_of (arc_at m) places p k) (given (arc_at m) places p k (arc_at m k))
      ∙ ap₂ o.join (upto k) (one k (arc_at m k) refl)
      ∙ sym (over_append o laws h (first_arcs m k) (option_to_list (arc_at m k)))
      ∙ ap (join_over o h) (sym (next m k (arc_at m k) refl) ∙ rw add-one)

  -- the join over the places of p's row, of f of the arc there, is the join over the arcs in force that leave p
  pub places_joined : join_over o (λ k. value o f (arc_at m k)) (row_of (arc_at m) places p (length m.stock)) ≡ join_over o (λ a. cond (eqb a.from p) (f a) o.none) (in_force m)
  places_joined = upto (length m.stock) ∙ ap (λ xs. join_over o (λ a. cond (eqb a.from p) (f a) o.none) (filter (free_ends m) xs)) (take_all (length m.stock) m.stock (omega arith))
