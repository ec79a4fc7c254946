-- The counts of a plan add up: each arc in the plan is merged, skipped or inner.
use Rattle.std.proofs.Common.{◌≡◌, ℕ, zero, suc, ◌+◌, ◌-◌, ◌<◌, ◌≤◌, Bool, true, false, cond, not, ◌&&◌, eqb, List, [], ◌∷◌, map, filter, length, refl, sym, ap, ap₂, ◌∙◌, inl, inr, ⊎_elim, eq-eqb, ne_eqb, arith}
use Rattle.std.specs.List.{range_with_len, flat_map, sum_by}
use Rattle.std.proofs.lemmas.Bool.{cases_Bool, cases_eq, cond-true, cond-false, and_right, and_from}
use Rattle.std.proofs.lemmas.List.Sums.{sum_by-cons, sum_by-append, length-filter}
use Rattle.std.proofs.lemmas.List.Folds.{fold-map}
use Rattle.paths.specs.declared.arc.Arc.{Arc}
use Rattle.paths.specs.Chains.{Mem}
use Rattle.paths.specs.Tables.{table}
use Rattle.paths.specs.Groups.{group}
use Rattle.plans.specs.Laws.{Depends}
use Rattle.plans.specs.Plans.{planned, job, inside, wait, between, skipped_between, arcs_inside, counts}
use Rattle.plans.proofs.Meaning.{group_below, planned_group, job_planned, job_name, depends_from, depends_to, depends_apart, depends_arc, wait_sound, size, size_falls}
use Rattle.plans.proofs.Reduction.{wait_pair}

sum_both : {A : Type 0} (f g : A → ℕ) (xs : List A) → sum_by (λ x. f x + g x) xs ≡ sum_by f xs + sum_by g xs
sum_both f g [] = refl
sum_both f g (x ∷ xs) = omega (arith, sum_by-cons (λ x. f x + g x) x xs, sum_by-cons f x xs, sum_by-cons g x xs, sum_both f g xs)

sum_flat_map : {A B : Type 0} (f : B → ℕ) (h : A → List B) (xs : List A) → sum_by f (flat_map h xs) ≡ sum_by (λ x. sum_by f (h x)) xs
sum_flat_map f h [] = refl
sum_flat_map f h (x ∷ xs) =
    sum_by-append f (h x) (flat_map h xs) ∙ ap (λ s. sum_by f (h x) + s) (sum_flat_map f h xs) ∙ sym (sum_by-cons (λ x. sum_by f (h x)) x xs)

-- a sum over numbers that is 0 from some number on, or but for one number
sum_zero : (f : ℕ → ℕ) (from n : ℕ) → ((k : ℕ) → from ≤ k → f k ≡ 0) → sum_by f (range_with_len from n) ≡ 0
sum_zero f from zero h = refl
sum_zero f from (suc n) h =
    omega (arith, sum_by-cons f from (range_with_len (from + 1) n), h from (omega arith), sum_zero f (from + 1) n (λ k le. h k (omega arith)))

sum_single : (f : ℕ → ℕ) (u : ℕ) → ((k : ℕ) → (k ≡ u → ⊥) → f k ≡ 0) → (from n : ℕ) → from ≤ u → u < from + n → sum_by f (range_with_len from n) ≡ f u
sum_single f u h from zero low high = absurd (omega arith)
sum_single f u h from (suc n) low high =
    let all : sum_by f (range_with_len from (suc n)) ≡ f from + sum_by f (range_with_len (from + 1) n) = sum_by-cons f from (range_with_len (from + 1) n) in
    ⊎_elim
    (λ (e : from ≡ u). omega (arith, all, ap f e, sum_zero f (from + 1) n (λ k le. h k (λ same. omega arith))))
    (λ (ne : from ≡ u → ⊥). omega (arith, all, h from ne, sum_single f u h (from + 1) n (omega (arith, ne)) (omega arith)))
    (cases_eq from u)

-- the sum over the pairs of numbers below n
abbrev pub over : ℕ → (ℕ → ℕ → ℕ) → ℕ
over n f = sum_by (λ a. sum_by (f a) (range_with_len 0 n)) (range_with_len 0 n)

-- that over a table
pub sum_table : {A : Type 0} (f : A → ℕ) (n : ℕ) (g : ℕ → ℕ → A) → sum_by f (table n g) ≡ over n (λ a b. f (g a b))
sum_table f n g =
    sum_flat_map f (λ a. map (g a) (range_with_len 0 n)) (range_with_len 0 n)
    ∙ ap (λ (h : ℕ → ℕ). sum_by h (range_with_len 0 n)) (λ i a. fold-map (λ s x. s + f x) (g a) 0 (range_with_len 0 n) i)

over_both : (n : ℕ) (f g : ℕ → ℕ → ℕ) → over n (λ a b. f a b + g a b) ≡ over n f + over n g
over_both n f g =
    let all = range_with_len 0 n in
    ap (λ (h : ℕ → ℕ). sum_by h all) (λ i a. sum_both (f a) (g a) all i) ∙ sum_both (λ a. sum_by (f a) all) (λ a. sum_by (g a) all) all

over_zero : (n : ℕ) (f : ℕ → ℕ → ℕ) → ((a b : ℕ) → f a b ≡ 0) → over n f ≡ 0
over_zero n f h = sum_zero (λ a. sum_by (f a) (range_with_len 0 n)) 0 n (λ a _. sum_zero (f a) 0 n (λ b _. h a b))

over_single : (n : ℕ) (f : ℕ → ℕ → ℕ) (u v : ℕ) → u < n → v < n → ((a b : ℕ) → (a ≡ u → ⊥) → f a b ≡ 0) → ((b : ℕ) → (b ≡ v → ⊥) → f u b ≡ 0) → over n f ≡ f u v
over_single n f u v hu hv rows columns =
    sum_single (λ a. sum_by (f a) (range_with_len 0 n)) u (λ a ne. sum_zero (f a) 0 n (λ b _. rows a b ne)) 0 n (omega arith) (omega arith)
    ∙ sum_single (f u) v columns 0 n (omega arith) (omega arith)

pub filter_cons : {A : Type 0} (p : A → Bool) (x : A) (xs : List A) → length (filter p (x ∷ xs)) ≡ cond (p x) 1 0 + length (filter p xs)
filter_cons p x xs = elim (p x) as (λ b. length (cond b (x ∷ filter p xs) (filter p xs)) ≡ cond b 1 0 + length (filter p xs)) [ true ↦ omega arith | false ↦ omega arith ]

filter_some : {A : Type 0} (test : A → Bool) (x : A) (xs : List A) → Mem x xs → test x ≡ true → 1 ≤ length (filter test xs)
filter_some test x [] m e = elim m [ ]
filter_some test x (y ∷ xs) (inl is) e = omega (arith, filter_cons test y xs, cond-true {A = ℕ} (test y) 1 0 (ap test (sym is) ∙ e))
filter_some test x (y ∷ xs) (inr m) e = omega (arith, filter_cons test y xs, filter_some test x xs m e)

-- those that pass a test pass another as well, or they do not
filter_split : {A : Type 0} (p q : A → Bool) (xs : List A) → length (filter p xs) ≡ length (filter (λ x. p x && not (q x)) xs) + length (filter (λ x. p x && q x) xs)
filter_split p q [] = refl
filter_split p q (x ∷ xs) =
    omega (arith, filter_cons p x xs, filter_cons (λ y. p y && not (q y)) x xs, filter_cons (λ y. p y && q y) x xs, filter_split p q xs, one (p x) (q x))
  where
    one : (b c : Bool) → cond b 1 0 ≡ cond (b && not c) 1 0 + cond (b && c) 1 0
    one true true = refl
    one true false = refl
    one false c = refl

zero_or : (b : Bool) (x : ℕ) → x ≡ 0 → cond b 0 x ≡ 0
zero_or true x e = refl
zero_or false x e = e

cond_add : (b : Bool) (x y : ℕ) → cond b 0 (x + y) ≡ cond b 0 x + cond b 0 y
cond_add true x y = refl
cond_add false x y = refl

-- what passes t, by its two numbers, where they are not the same
module _ {A : Type 0} (n : ℕ) (t : A → Bool) (x y : A → ℕ) where
  abbrev at : ℕ → ℕ → A → Bool
  at a b e = t e && (eqb (x e) a && eqb (y e) b)

  abbrev apart : A → Bool
  apart e = t e && not (eqb (x e) (y e))

  abbrev cell : A → ℕ → ℕ → ℕ
  cell e a b = cond (eqb a b) 0 (cond (at a b e) 1 0)

  cell_none : (e : A) (a b : ℕ) → (eqb (x e) a && eqb (y e) b) ≡ false → cell e a b ≡ 0
  cell_none e a b h = zero_or (eqb a b) (cond (at a b e) 1 0) (ap (λ s. cond s 1 0) (and_right (t e) (eqb (x e) a && eqb (y e) b) h))

  cell_at : (e : A) → cell e (x e) (y e) ≡ cond (apart e) 1 0
  cell_at e = by (t e) (eqb (x e) (x e)) (eqb (y e) (y e)) (eqb (x e) (y e)) (eq-eqb (x e) (x e) refl) (eq-eqb (y e) (y e) refl)
    where
      by : (b r s d : Bool) → r ≡ true → s ≡ true → cond {A = ℕ} d 0 (cond (b && (r && s)) 1 0) ≡ cond (b && not d) 1 0
      by b r s d p q = rw (p, q) (last b d)
        where
          last : (b d : Bool) → cond {A = ℕ} d 0 (cond (b && true) 1 0) ≡ cond (b && not d) 1 0
          last true true = refl
          last true false = refl
          last false true = refl
          last false false = refl

  cell_sum : (e : A) → (x e < n) × (y e < n) → over n (cell e) ≡ cond (apart e) 1 0
  cell_sum e h =
      over_single n (cell e) (x e) (y e) h.0 h.1
      (λ a b ne. cell_none e a b (ap (λ r. r && eqb (y e) b) (ne_eqb (x e) a (λ q. ne (sym q)))))
      (λ b ne. cell_none e (x e) b (and_right (eqb (x e) (x e)) (eqb (y e) b) (ne_eqb (y e) b (λ q. ne (sym q)))))
      ∙ cell_at e

  pair_by_pair : (xs : List A) → ((e : A) → Mem e xs → (x e < n) × (y e < n)) → over n (λ a b. cond (eqb a b) 0 (length (filter (at a b) xs))) ≡ length (filter apart xs)
  pair_by_pair [] h = over_zero n (λ a b. cond (eqb a b) 0 0) (λ a b. zero_or (eqb a b) 0 refl)
  pair_by_pair (e ∷ xs) h =
      ap (λ (f : ℕ → ℕ → ℕ). over n f) (λ i a b. (ap (cond (eqb a b) 0) (filter_cons (at a b) e xs) ∙ cond_add (eqb a b) (cond (at a b e) 1 0) (length (filter (at a b) xs))) i)
      ∙ over_both n (cell e) (λ a b. cond (eqb a b) 0 (length (filter (at a b) xs)))
      ∙ ap₂ ◌+◌ (cell_sum e (h e (inl refl))) (pair_by_pair xs (λ z m. h z (inr m)))
      ∙ sym (filter_cons apart e xs)

-- the waits, pair by pair
pub merged_pairs : {K : Type 0} (arcs : List (Arc K)) (n : ℕ) (changed : List ℕ) → (counts arcs n changed).merged ≡ over n (λ a b. cond (wait arcs n changed a b) 1 0)
merged_pairs arcs n changed =
    length-filter (λ (e : ℕ × ℕ). wait arcs n changed e.0 e.1) (table n (λ a b. (a, b)))
    ∙ sum_table (λ (e : ℕ × ℕ). cond (wait arcs n changed e.0 e.1) 1 0) n (λ a b. (a, b))

module _ {K : Type 0} (arcs : List (Arc K)) (n : ℕ) (ends : (a : Arc K) → Mem a arcs → (a.from < n) × (a.to < n))
    (changed : List ℕ) (known : (c : ℕ) → Mem c changed → c < n) where
  -- a package in a job's group is in the plan
  in_plan : (a p : ℕ) → job arcs n changed a ≡ true → group arcs n p ≡ a → planned arcs n changed p ≡ true
  in_plan a p j e = planned_group arcs n ends changed known a p (job_name arcs n ends changed known a j ∙ sym e) (job_planned arcs n ends changed known a j)

  -- a wait is of two jobs, and an arc in the plan leads from the first to the second
  waited : (a b : ℕ) → wait arcs n changed a b ≡ true → (1 ≤ between arcs n changed a b) × (a ≡ b → ⊥)
  waited a b h =
      let d : Depends arcs n changed a b =
      wait_pair (Depends arcs n changed) (size arcs n ends changed known) (size_falls arcs n ends changed known) a b (wait_sound arcs n ends changed known a b h) in
      let r = depends_arc arcs n ends changed known a b d in
      let e = r.0 in (
        filter_some (λ e. inside arcs n changed e && (eqb (group arcs n e.from) a && eqb (group arcs n e.to) b)) e arcs r.1
            (and_from (inside arcs n changed e) (eqb (group arcs n e.from) a && eqb (group arcs n e.to) b)
            (and_from (planned arcs n changed e.from) (planned arcs n changed e.to)
            (in_plan a e.from (depends_from arcs n ends changed known a b d) r.2)
            (in_plan b e.to (depends_to arcs n ends changed known a b d) r.3))
            (and_from (eqb (group arcs n e.from) a) (eqb (group arcs n e.to) b) (eq-eqb (group arcs n e.from) a r.2) (eq-eqb (group arcs n e.to) b r.3))),
        depends_apart arcs n ends changed known a b d,
      )

  -- of the arcs from a job to another, all are passed over but for one where the job waits
  pair_split : (a b : ℕ) → cond (eqb a b) 0 (between arcs n changed a b) ≡ skipped_between arcs n changed a b + cond (wait arcs n changed a b) 1 0
  pair_split a b =
      let w : Bool = wait arcs n changed a b in
      let m : ℕ = between arcs n changed a b in
      ⊎_elim
      (λ (yes : w ≡ true).
      let h = waited a b yes in
      let e : eqb a b ≡ false = ne_eqb a b h.1 in
      omega (arith, h.0, cond-true {A = ℕ} w 1 0 yes, cond-false {A = ℕ} (eqb a b) 0 m e, cond-false {A = ℕ} (eqb a b) 0 (m - cond w 1 0) e))
      (λ (no : w ≡ false).
      let less : m - 0 ≡ m = omega arith in
      omega (arith, cond-false {A = ℕ} w 1 0 no, ap (λ s. cond (eqb a b) 0 (m - cond s 1 0)) no, ap (cond (eqb a b) 0) less))
      (cases_Bool w)

  -- what leads from one job to another is skipped or merged
  pub outer_split : length (filter (λ e. inside arcs n changed e && not (eqb (group arcs n e.from) (group arcs n e.to))) arcs) ≡ (counts arcs n changed).skipped + (counts arcs n changed).merged
  outer_split =
      let waits : ℕ → ℕ → ℕ = λ a b. cond (wait arcs n changed a b) 1 0 in
      sym (pair_by_pair n (inside arcs n changed) (λ e. group arcs n e.from) (λ e. group arcs n e.to) arcs (λ e m. let h = ends e m in (group_below arcs n ends changed known e.from h.0, group_below arcs n ends changed known e.to h.1)))
      ∙ ap (λ (f : ℕ → ℕ → ℕ). over n f) (λ i a b. pair_split a b i)
      ∙ over_both n (skipped_between arcs n changed) waits
      ∙ ap₂ ◌+◌
      (sym (sum_table (λ s. s) n (skipped_between arcs n changed)))
      (sym (merged_pairs arcs n changed))

  pub law_counts : arcs_inside arcs n changed ≡ (counts arcs n changed).merged + (counts arcs n changed).skipped + (counts arcs n changed).inner
  law_counts = omega (arith, filter_split (inside arcs n changed) (λ e. eqb (group arcs n e.from) (group arcs n e.to)) arcs, outer_split)
