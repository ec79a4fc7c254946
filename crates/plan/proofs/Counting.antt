-- How waves and arcs are counted.
use Rattle.std.proofs.Common.{◌≡◌, ℕ, zero, suc, ◌+◌, max, Bool, true, false, cond, List, [], ◌∷◌, ◌++◌, map, filter, length, Some, None, refl, sym, ap, ap₂, ◌∙◌, arith}
use Rattle.std.specs.List.{range_with_len, slice_get}
use Rattle.std.specs.Option.{option_map_or}
use Rattle.std.specs.Ordering.{ord_max, nat_cmp}
use Rattle.std.proofs.lemmas.List.FromFn.{map-range_with_len_more}
use Rattle.paths.specs.declared.arc.Arc.{Arc}
use Rattle.catalogue.specs.Meanings.{Meaning, free_ends, in_force}
use Rattle.catalogue.specs.Calls.{unheld, arc_at}
use Rattle.graphs.specs.declared.record.PackageRecord.{PackageRecord}
use Rattle.graphs.specs.Records.{of}
use Rattle.plans.specs.Plans.{largest}
use Rattle.plans.proofs.Tallies.{filter_cons}
use Rattle.plan.specs.Tally.{names_job}

-- the largest of the passed, where the others count as 0
module _ (p : ℕ → Bool) (f : ℕ → ℕ) where
  abbrev pub value : ℕ → ℕ
  value x = cond (p x) (f x + 1) 0

  pub passed : (xs : List ℕ) → largest (map (λ x. suc (f x)) (filter p xs)) ≡ largest (map value xs)
  passed [] = refl
  passed (x ∷ xs) =
      elim (p x) as (λ b. largest (map (λ x. suc (f x)) (cond b (x ∷ filter p xs) (filter p xs))) ≡ max (cond b (f x + 1) 0) (largest (map value xs)))
      [ true ↦ omega (arith, passed xs) | false ↦ omega (arith, passed xs) ]

largest_push : (xs : List ℕ) (y : ℕ) → largest (xs ++ (y ∷ [])) ≡ max (largest xs) y
largest_push [] y = omega arith
largest_push (x ∷ xs) y = omega (arith, largest_push xs y)

-- w is one more than the largest wave of the jobs named below n, or 0
pub record Told (records : List PackageRecord) (n w : ℕ) : Type 0 where
  pub is : w ≡ largest (map (λ p. suc (of records p).wave) (filter (names_job records) (range_with_len 0 n)))

pub told_more : (records : List PackageRecord) (n w e m : ℕ) → Told records n w → m ≡ ord_max nat_cmp w e
    → e ≡ cond (names_job records n) ((of records n).wave + 1) 0 → Told records (n + 1) m
told_more records n w e m told most here =
    let p = names_job records in
    let f : ℕ → ℕ = λ x. (of records x).wave in
    record {
      is =
          most
          ∙ grind arith
          ∙ ap₂ max (told.is ∙ passed p f (range_with_len 0 n)) here
          ∙ sym (largest_push (map (value p f) (range_with_len 0 n)) (value p f n))
          ∙ ap largest (sym (map-range_with_len_more (value p f) 0 n n (omega arith)))
          ∙ sym (passed p f (range_with_len 0 (n + 1)));
    }

-- numbers one further on
shift : (p : ℕ → Bool) (a n : ℕ) → length (filter p (range_with_len (a + 1) n)) ≡ length (filter (λ k. p (suc k)) (range_with_len a n))
shift p a zero = refl
shift p a (suc n) =
    let next : a + 1 ≡ suc a = omega arith in
    filter_cons p (a + 1) (range_with_len (a + 1 + 1) n)
    ∙ ap₂ ◌+◌ (ap (λ k. cond {A = ℕ} (p k) 1 0) next) (shift p (a + 1) n)
    ∙ sym (filter_cons (λ k. p (suc k)) a (range_with_len (a + 1) n))

-- there are as many places with an arc in force that passes as arcs in force that pass
module _ {K : Type 0} (m : Meaning K) (t : Arc K → Bool) where
  abbrev place : List (Arc K) → ℕ → Bool
  place xs k = option_map_or t (unheld m (slice_get xs k)) false

  first_place : (x : Arc K) (xs : List (Arc K))
      → cond {A = ℕ} (place (x ∷ xs) 0) 1 0 + length (filter t (filter (free_ends m) xs)) ≡ length (filter t (filter (free_ends m) (x ∷ xs)))
  first_place x xs =
      let ys = filter (free_ends m) xs in
      elim (free_ends m x) as (λ b. cond {A = ℕ} (option_map_or t (cond b (Some x) None) false) 1 0 + length (filter t ys) ≡ length (filter t (cond b (x ∷ ys) ys)))
      [ true ↦ sym (filter_cons t x ys) | false ↦ omega arith ]

  places : (xs : List (Arc K)) → length (filter (place xs) (range_with_len 0 (length xs))) ≡ length (filter t (filter (free_ends m) xs))
  places [] = refl
  places (x ∷ xs) =
      filter_cons (place (x ∷ xs)) 0 (range_with_len 1 (length xs))
      ∙ ap (λ s. cond {A = ℕ} (place (x ∷ xs) 0) 1 0 + s) (shift (place (x ∷ xs)) 0 (length xs) ∙ places xs)
      ∙ first_place x xs

  pub places_counted : length (filter (λ k. option_map_or t (arc_at m k) false) (range_with_len 0 (length m.stock))) ≡ length (filter t (in_force m))
  places_counted = places m.stock
