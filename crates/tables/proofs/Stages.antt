-- One stage of the elimination, row by row and in place.
use Rattle.std.proofs.Common.{◌≡◌, ℕ, ◌+◌, ◌-◌, ◌*◌, ◌<◌, false, cond, not, ltb, List, ◌++◌, length, get_or, sym, ap, ◌∙◌, subst, ap₂, add-one, length-append, arith}
use native.Mathlib.Decide.{ℕ_discrete, dec_lt}
use Rattle.std.proofs.Math.Nat.{add-mul}
use Rattle.std.proofs.lemmas.Bool.{not-false}
use Rattle.std.proofs.lemmas.Nat.{mul-add-lt, row_fits}
use Rattle.std.proofs.lemmas.List.{get_or_append_left, get_or-append_right}
use Rattle.labels.specs.Algebra.{Ops, Laws, Absorbs, Exact}
use Rattle.paths.specs.Tables.{cell, Shows, through, eliminated}
use Rattle.paths.proofs.Joins.{none_join}
use Rattle.paths.proofs.Order.{under_extend}
use Rattle.tables.specs.Tables.{over_column, Reaches}
use Rattle.tables.proofs.Areas.{row_within}
use Rattle.tables.proofs.Choosing.{here, elsewhere, below, from, beside}
use Rattle.tables.proofs.RowWrites.{with_ways}

-- the rows below r are those of T, the others those of U
abbrev pub rows : {M : Type 0} → ℕ → (ℕ → ℕ → M) → (ℕ → ℕ → M) → ℕ → ℕ → M
rows r T U i j = cond (ltb i r) (T i j) (U i j)

module _ {M : Type 0} (o : Ops M) (n : ℕ) where
  -- one more package
  pub eliminated_more : (T : ℕ → ℕ → M) (cells next : List M) (k : ℕ) → k < n → Shows o n cells (eliminated o T k) → Shows o n next (through o k (cell o n cells))
      → (m : ℕ) → m ≡ k + 1 → Shows o n next (eliminated o T m)
  eliminated_more T cells next k hk shows made m e =
      subst (λ t. Shows o n next (eliminated o T t)) (sym (e ∙ add-one k))
      (λ i j hi hj. made i j hi hj ∙ ap₂ o.join (shows i j hi hj) (ap₂ o.extend (shows i k hi hk) (shows k j hk hj)))

module _ {M : Type 0} (o : Ops M) where
  -- where there is no way to the package, there is none through it
  unmoved : Laws o → Exact o → (first x y : M) → not (o.same first o.none) ≡ false → x ≡ o.join x (o.extend first y)
  unmoved laws exact first x y h =
      sym (ap (λ l. o.join x (o.extend l y)) (exact.sound first o.none (not-false _ h)) ∙ ap (o.join x) (laws.none_left y) ∙ none_join o laws x)

  pub row_left : Laws o → Exact o → (n r : ℕ) (ways : ℕ → M) (first : M) (cells : List M) → not (o.same first o.none) ≡ false
      → (i j : ℕ) → j < n → cell o n cells i j ≡ with_ways o first r ways (cell o n cells) i j
  row_left laws exact n r ways first cells h i j hj = go (ℕ_discrete r i)
    where
      go : Dec (r ≡ i) → cell o n cells i j ≡ with_ways o first r ways (cell o n cells) i j
      go (yes e) = unmoved laws exact first (cell o n cells i j) (ways j) h ∙ sym (here r i _ _ e)
      go (no ne) = sym (elsewhere r i _ _ ne)

  -- one more row
  pub row_more : (n k r : ℕ) (ways : ℕ → M) (T : ℕ → ℕ → M) (cells next : List M) (first : M) → k < n
      → ((i j : ℕ) → j < n → cell o n cells i j ≡ rows r (over_column o k ways T) T i j)
      → first ≡ cell o n cells r k
      → ((i j : ℕ) → j < n → cell o n next i j ≡ with_ways o first r ways (cell o n cells) i j)
      → (i j : ℕ) → j < n → cell o n next i j ≡ rows (r + 1) (over_column o k ways T) T i j
  row_more n k r ways T cells next first hk shows read made i j hj = made i j hj ∙ go (ℕ_discrete r i)
    where
      -- row r is not reached yet
      ahead : (q : ℕ) → q < n → cell o n cells r q ≡ T r q
      ahead q hq = shows r q hq ∙ from r r _ _ (omega arith)

      go : Dec (r ≡ i) → with_ways o first r ways (cell o n cells) i j ≡ rows (r + 1) (over_column o k ways T) T i j
      go (yes e) =
          here r i _ _ e
          ∙ ap₂ o.join (ap (λ p. cell o n cells p j) (sym e) ∙ ahead j hj) (ap (λ x. o.extend x (ways j)) (read ∙ ahead k hk))
          ∙ ap (λ p. over_column o k ways T p j) e ∙ sym (below i (r + 1) _ _ (omega arith))
      go (no ne) = elsewhere r i _ _ ne ∙ shows i j hj ∙ beside i r _ _ (λ e. ne (sym e))

-- the rows before row k, row k, and those after it
module _ {M : Type 0} (o : Ops M) (n k : ℕ) (before via after : List M) (front : length before ≡ k * n) (wide : length via ≡ n) where
  early : (p q : ℕ) → p < k → q < n → cell o n (before ++ (via ++ after)) p q ≡ cell o n before p q
  early p q hp hq = get_or_append_left before (via ++ after) o.none (p * n + q) (omega (arith, mul-add-lt p n q k hp hq))

  amid : (q : ℕ) → q < n → cell o n (before ++ (via ++ after)) k q ≡ get_or via q o.none
  amid q hq =
      get_or-append_right before (via ++ after) (k * n) (k * n + q) o.none front (omega arith)
      ∙ ap (λ u. get_or (via ++ after) u o.none) (let same : (k * n + q) - k * n ≡ q = omega arith in same)
      ∙ get_or_append_left via after o.none q (omega arith)

  place : (p q : ℕ) → k < p → k * n + (n + ((p - (k + 1)) * n + q)) ≡ p * n + q
  place p q hp = let e : p ≡ (k + 1) + (p - (k + 1)) = omega arith in omega (arith, ap (λ x. x * n) e, add-mul (k + 1) (p - (k + 1)) n, add-mul k 1 n)

  late : (p q : ℕ) → k < p → cell o n (before ++ (via ++ after)) p q ≡ cell o n after (p - (k + 1)) q
  late p q hp =
      get_or-append_right before (via ++ after) (k * n) (p * n + q) o.none front (omega (arith, place p q hp))
      ∙ get_or-append_right via after n ((p * n + q) - k * n) o.none wide (omega (arith, place p q hp))
      ∙ ap (λ u. get_or after u o.none) (let same : ((p * n + q) - k * n) - n ≡ (p - (k + 1)) * n + q = omega (arith, place p q hp) in same)

-- the rows before and after row k reach over it, and row k itself is no better through k
pub stage : {M : Type 0} (o : Ops M) → Laws o → Absorbs o → (n k : ℕ) (cells before via after before' after' : List M) → k < n → length cells ≡ n * n
    → cells ≡ before ++ (via ++ after) → length before ≡ k * n → length via ≡ n → length before' ≡ length before
    → Reaches o (length via) k (λ j. get_or via j o.none) before before' → Reaches o (length via) k (λ j. get_or via j o.none) after after'
    → Shows o n (before' ++ (via ++ after')) (through o k (cell o n cells))
stage {M = M} o laws absorbs n k cells before via after before' after' hk square parts front wide front' first second i j hi hj =
    go (ℕ_discrete i k) (dec_lt i k) ∙ ap (λ l. through o k (cell o n l) i j) (sym parts)
  where
    whole : List M
    whole = before ++ (via ++ after)

    area : k * n + (n + length after) ≡ n * n
    area = omega (arith, square, ap length parts, length-append before (via ++ after), length-append via after)

    reaches : (old new : List M) → Reaches o (length via) k (λ j. get_or via j o.none) old new → Reaches o n k (λ j. get_or via j o.none) old new
    reaches old new = subst (λ w. Reaches o w k (λ j. get_or via j o.none) old new) wide

    own : (q : ℕ) → q < n → get_or via q o.none ≡ cell o n whole k q
    own q hq = sym (amid o n k before via after front wide q hq)

    go : Dec (i ≡ k) → Dec (i < k) → cell o n (before' ++ (via ++ after')) i j ≡ through o k (cell o n whole) i j
    go (yes e) _ =
        ap (λ p. cell o n (before' ++ (via ++ after')) p j) e
        ∙ amid o n k before' via after' (front' ∙ front) wide j hj
        ∙ own j hj ∙ sym (under_extend o laws absorbs (cell o n whole k k) (cell o n whole k j))
        ∙ ap (λ p. through o k (cell o n whole) p j) (sym e)
    go (no ne) (yes h) =
        early o n k before' via after' (front' ∙ front) wide i j h hj
        ∙ reaches before before' first i j (omega (arith, row_fits i n k n h (omega arith))) hj
        ∙ ap₂ o.join (sym (early o n k before via after front wide i j h hj)) (ap₂ o.extend (sym (early o n k before via after front wide i k h hk)) (own j hj))
    go (no ne) (no h) =
        let above : k < i = omega arith in
        late o n k before' via after' (front' ∙ front) wide i j above
        ∙ reaches after after' second (i - (k + 1)) j (omega (arith, place o n k before via after front wide i 0 above, row_within n i hi, area)) hj
        ∙ ap₂ o.join (sym (late o n k before via after front wide i j above)) (ap₂ o.extend (sym (late o n k before via after front wide i k above)) (own j hj))
