-- What tests of the numbers below n tell, and the first number that passes.
use Rattle.std.proofs.Common.{◌≡◌, ℕ, zero, suc, ◌+◌, ◌<◌, ◌≤◌, Bool, true, false, cond, ◌&&◌, eqb, ◌⊎◌, List, [], ◌∷◌, map, filter, length, inl, inr, ne_eqb, eq-eqb, eqb-true, refl, sym, ap, ◌∙◌, subst, arith}
use native.Mathlib.Decide.{ℕ_discrete}
use Rattle.std.specs.List.{AllByRecursion, IsDistinct, range_with_len, list_any}
use Rattle.std.proofs.lemmas.Bool.{false≢true, true≢false, or_left, or_right, or_cases}
use Rattle.std.proofs.lemmas.List.{length-map}
use Rattle.std.proofs.lemmas.Map.Keys.{IsDistinct-cons}
use Rattle.std.proofs.lemmas.Map.Steps.{length-le_from_distinct_below, le-length_from_below}
use Rattle.std.proofs.lemmas.List.Folds.{Any-from_list_any, list_any_at}
use Rattle.std.proofs.lemmas.List.FromFn.{length-range_with_len, get_or-range_with_len}
use Rattle.paths.specs.Tables.{every, first_from}

module _ (test : ℕ → Bool) where
  pub every_sound : (n : ℕ) → every test n ≡ true → (i : ℕ) → i < n → test i ≡ true
  every_sound zero e i h = absurd (omega arith)
  every_sound (suc n) e i h = go (every test n) (test n) e refl refl (λ a lt. every_sound n a i lt) (ℕ_discrete i n)
    where
      go : (a b : Bool) → (a && b) ≡ true → every test n ≡ a → test n ≡ b → (every test n ≡ true → i < n → test i ≡ true) → Dec (i ≡ n) → test i ≡ true
      go true true p q r more (yes same) = ap test same ∙ r
      go true true p q r more (no other) = more q (omega arith)
      go true false p q r more d = absurd (false≢true p)
      go false b p q r more d = absurd (false≢true p)

  pub every_full : (n : ℕ) → ((i : ℕ) → i < n → test i ≡ true) → every test n ≡ true
  every_full zero h = refl
  every_full (suc n) h = subst (λ b. (b && test n) ≡ true) (sym (every_full n (λ i lt. h i (omega arith)))) (h n (omega arith))

  pub any_sound : (n : ℕ) → list_any test (range_with_len 0 n) ≡ true → (i : ℕ) × (i < n) × (test i ≡ true)
  any_sound n e =
      let r = Any-from_list_any test (range_with_len 0 n) e in
      let in_range : r.0 < n = omega (arith, r.2, length-range_with_len 0 n) in
      (r.1, omega (arith, r.3, get_or-range_with_len 0 n r.0 r.1 in_range), r.4)

  pub any_full : (n i : ℕ) → i < n → test i ≡ true → list_any test (range_with_len 0 n) ≡ true
  any_full n i h e = list_any_at test (range_with_len 0 n) i 0 (omega (arith, length-range_with_len 0 n))
      (ap test (get_or-range_with_len 0 n i 0 h ∙ omega arith) ∙ e)

  pub first_after : (more k : ℕ) → k ≤ first_from test more k
  first_after zero k = omega arith
  first_after (suc more) k = go (test k) (first_after more (suc k))
    where
      go : (b : Bool) → suc k ≤ first_from test more (suc k) → k ≤ cond b k (first_from test more (suc k))
      go true later = omega arith
      go false later = omega arith

  -- what is found passes if the last does
  pub first_passes : (more k : ℕ) → test (more + k) ≡ true → test (first_from test more k) ≡ true
  first_passes zero k e = ap test (omega arith) ∙ e
  first_passes (suc more) k e = go (test k) refl (first_passes more (suc k) (ap test (omega arith) ∙ e))
    where
      go : (b : Bool) → test k ≡ b → test (first_from test more (suc k)) ≡ true → test (cond b k (first_from test more (suc k))) ≡ true
      go true here later = here
      go false here later = later

  -- and none before it passes
  pub first_least : (more k i : ℕ) → k ≤ i → i < first_from test more k → test i ≡ false
  first_least zero k i from before = absurd (omega arith)
  first_least (suc more) k i from before = go (test k) refl (ℕ_discrete k i) (first_least more (suc k) i) before
    where
      go : (b : Bool) → test k ≡ b → Dec (k ≡ i) → (suc k ≤ i → i < first_from test more (suc k) → test i ≡ false)
          → i < cond b k (first_from test more (suc k)) → test i ≡ false
      go true here d later lt = absurd (omega arith)
      go false here (yes same) later lt = ap test (sym same) ∙ here
      go false here (no other) later lt = later (omega arith) lt

all_any : (P : ℕ → Type 0) (x : ℕ) (xs : List ℕ) → AllByRecursion P xs → list_any (eqb x) xs ≡ true → P x
all_any P x [] h e = absurd (true≢false (sym e))
all_any P x (y ∷ ys) h e = go (or_cases (eqb x y) (list_any (eqb x) ys) e) (all_any P x ys h.1)
  where
    go : (eqb x y ≡ true) ⊎ (list_any (eqb x) ys ≡ true) → (list_any (eqb x) ys ≡ true → P x) → P x
    go (inl same) more = subst P (sym (eqb-true x y same)) h.0
    go (inr later) more = more later

-- the numbers that pass, read by f
module _ (test : ℕ → Bool) (f : ℕ → ℕ) where
  abbrev passed : ℕ → ℕ → List ℕ
  passed from n = map f (filter test (range_with_len from n))

  passed_all : (P : ℕ → Type 0) (from n : ℕ) → ((i : ℕ) → from ≤ i → i < from + n → test i ≡ true → P (f i)) → AllByRecursion P (passed from n)
  passed_all P from zero h = tt
  passed_all P from (suc n) h = go (test from) refl (passed_all P (from + 1) n (λ i low high e. h i (omega arith) (omega arith) e))
    where
      go : (b : Bool) → test from ≡ b → AllByRecursion P (passed (from + 1) n)
          → AllByRecursion P (map f (cond b (from ∷ filter test (range_with_len (from + 1) n)) (filter test (range_with_len (from + 1) n))))
      go true e more = (h from (omega arith) (omega arith) e, more)
      go false e more = more

  passed_distinct : (from n : ℕ) → ((i j : ℕ) → from ≤ i → i < j → j < from + n → test i ≡ true → test j ≡ true → f i ≡ f j → ⊥) → IsDistinct eqb (passed from n)
  unfolding IsDistinct
  passed_distinct from zero h = tt
  passed_distinct from (suc n) h = go (test from) refl (passed_distinct (from + 1) n (λ i j low lt high. h i j (omega arith) lt (omega arith)))
    where
      go : (b : Bool) → test from ≡ b → IsDistinct eqb (passed (from + 1) n)
          → IsDistinct eqb (map f (cond b (from ∷ filter test (range_with_len (from + 1) n)) (filter test (range_with_len (from + 1) n))))
      go true e more = IsDistinct-cons eqb (f from) (passed (from + 1) n)
          (passed_all (λ y. eqb (f from) y ≡ false) (from + 1) n (λ j low high t. ne_eqb (f from) (f j) (h from j (omega arith) (omega arith) (omega arith) e t))) more
      go false e more = more

  passed_has : (from n i : ℕ) → from ≤ i → i < from + n → test i ≡ true → list_any (eqb (f i)) (passed from n) ≡ true
  passed_has from zero i low high t = absurd (omega arith)
  passed_has from (suc n) i low high t = go (test from) refl (ℕ_discrete i from) (λ later. passed_has (from + 1) n i later (omega arith) t)
    where
      go : (b : Bool) → test from ≡ b → Dec (i ≡ from) → (from + 1 ≤ i → list_any (eqb (f i)) (passed (from + 1) n) ≡ true)
          → list_any (eqb (f i)) (map f (cond b (from ∷ filter test (range_with_len (from + 1) n)) (filter test (range_with_len (from + 1) n)))) ≡ true
      go true e (yes same) more = or_left (eqb (f i) (f from)) (list_any (eqb (f i)) (passed (from + 1) n)) (eq-eqb (f i) (f from) (ap f same))
      go true e (no other) more = or_right (eqb (f i) (f from)) (list_any (eqb (f i)) (passed (from + 1) n)) (more (omega arith))
      go false e (yes same) more = absurd (true≢false (sym t ∙ ap test same ∙ e))
      go false e (no other) more = more (omega arith)

  -- g numbers pass where f takes them one to one to the numbers below g
  pub counted : (n g : ℕ) → ((i : ℕ) → i < n → test i ≡ true → f i < g)
      → ((i j : ℕ) → i < n → j < n → test i ≡ true → test j ≡ true → f i ≡ f j → i ≡ j)
      → ((k : ℕ) → k < g → (i : ℕ) × (i < n) × (test i ≡ true) × (f i ≡ k))
      → length (filter test (range_with_len 0 n)) ≡ g
  counted n g below one all =
      let few = length-le_from_distinct_below (passed 0 n) g
      (passed_distinct 0 n (λ i j low lt high t u e. let same = one i j (omega arith) (omega arith) t u e in omega arith))
      (λ q e. all_any (λ x. x < g) q (passed 0 n) (passed_all (λ x. x < g) 0 n (λ i low high t. below i (omega arith) t)) e) in
      let many = le-length_from_below (passed 0 n) g
      (λ k h. let r = all k h in subst (λ x. list_any (eqb x) (passed 0 n) ≡ true) r.3 (passed_has 0 n r.0 (omega arith) (omega (arith, r.1)) r.2)) in
      omega (arith, few, many, length-map (filter test (range_with_len 0 n)) f)
