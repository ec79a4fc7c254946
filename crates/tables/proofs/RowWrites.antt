-- A row relaxed, and a table with one of its rows relaxed.
use Rattle.std.proofs.Common.{◌≡◌, ℕ, zero, suc, ◌+◌, ◌-◌, ◌*◌, ◌<◌, ◌≤◌, cond, eqb, List, [], ◌∷◌, length, get_or, take, set, sym, refl, ap, ◌∙◌, ap₂, subst, add-one, arith}
use native.Mathlib.Decide.{ℕ_discrete, dec_lt}
use Rattle.std.proofs.lemmas.List.{get_or-drop, get_or-take}
use Rattle.std.proofs.lemmas.Slice.{between-put_mid, take-put_mid_below, drop-put_mid}
use Rattle.std.proofs.lemmas.List.Edits.{get_or-between, length-between}
use Rattle.std.proofs.lemmas.Nat.{mul-add-lt, mul-le}
use Rattle.labels.specs.Algebra.{Ops}
use Rattle.paths.specs.Tables.{cell}
use Rattle.tables.specs.Tables.{row, put_row, relaxed}
use Rattle.tables.proofs.Choosing.{here, elsewhere}

-- the pairs of row i are joined with the ways over `first` and then those of `ways`
abbrev pub with_ways : {M : Type 0} → Ops M → M → ℕ → (ℕ → M) → (ℕ → ℕ → M) → ℕ → ℕ → M
with_ways o first i ways T p j = cond (eqb i p) (o.join (T p j) (o.extend first (ways j))) (T p j)

module _ {M : Type 0} (o : Ops M) (first : M) where
  pub length_relaxed : (row via : List M) → length (relaxed o first row via) ≡ length row
  length_relaxed row [] = refl
  length_relaxed [] (y ∷ via) = refl
  length_relaxed (x ∷ row) (y ∷ via) = ap suc (length_relaxed row via)

  pub get_or_relaxed : (row via : List M) (j : ℕ) → j < length row → length via ≡ length row
      → get_or (relaxed o first row via) j o.none ≡ o.join (get_or row j o.none) (o.extend first (get_or via j o.none))
  get_or_relaxed [] via j h e = absurd (omega arith)
  get_or_relaxed (x ∷ row) [] j h e = absurd (omega arith)
  get_or_relaxed (x ∷ row) (y ∷ via) zero h e = refl
  get_or_relaxed (x ∷ row) (y ∷ via) (suc j) h e = get_or_relaxed row via j (omega arith) (omega arith)

  -- the columns from j on are still as they were
  ahead : (row via : List M) (j : ℕ) (d : M) → get_or (relaxed o first row (take j via)) j d ≡ get_or row j d
  ahead row via zero d = refl
  ahead row [] (suc j) d = refl
  ahead [] (y ∷ via) (suc j) d = refl
  ahead (x ∷ row) (y ∷ via) (suc j) d = ahead row via j d

  step : (row via : List M) (j : ℕ) (d e : M) → j < length row → j < length via
      → set (relaxed o first row (take j via)) j (o.join (get_or row j d) (o.extend first (get_or via j e))) ≡ relaxed o first row (take (suc j) via)
  step [] via j d e h k = absurd (omega arith)
  step (x ∷ row) [] j d e h k = absurd (omega arith)
  step (x ∷ row) (y ∷ via) zero d e h k = refl
  step (x ∷ row) (y ∷ via) (suc j) d e h k = ap (λ r. o.join x (o.extend first y) ∷ r) (step row via j d e (omega arith) (omega arith))

  -- one more column
  pub relaxed_more : (row via now : List M) (j : ℕ) (x y new : M) → j < length row → length via ≡ length row → now ≡ relaxed o first row (take j via)
      → new ≡ o.join (get_or now j x) (o.extend first y) → y ≡ get_or via j y → set now j new ≡ relaxed o first row (take (j + 1) via)
  relaxed_more row via now j x y new h e at made read =
      ap (set now j) (made ∙ ap (λ z. o.join (get_or now j x) (o.extend first z)) read)
      ∙ ap₂ (λ l z. set l j (o.join z (o.extend first (get_or via j y)))) at (ap (λ l. get_or l j x) at ∙ ahead row via j x)
      ∙ step row via j x y h (omega arith)
      ∙ ap (λ k. relaxed o first row (take k via)) (sym (add-one j))

module _ {M : Type 0} (n : ℕ) (cells new : List M) (f : ℕ) (room : f * n + n ≤ length cells) (fits : length new ≡ n) where
  -- what is read in that row
  pub cell_written : (j : ℕ) (d : M) → j < n → get_or (put_row n cells f new) (f * n + j) d ≡ get_or new j d
  cell_written j d hj =
      sym (get_or-between (put_row n cells f new) (f * n) (f * n + n) j d (omega arith))
      ∙ ap (λ r. get_or r j d) (between-put_mid (f * n) n cells new (f * n + n) (omega arith) (omega (arith, fits)))

  -- and in the others
  pub cell_beside : (i j : ℕ) (d : M) → j < n → (f ≡ i → ⊥) → get_or (put_row n cells f new) (i * n + j) d ≡ get_or cells (i * n + j) d
  cell_beside i j d hj ne = go (dec_lt i f)
    where
      go : Dec (i < f) → get_or (put_row n cells f new) (i * n + j) d ≡ get_or cells (i * n + j) d
      go (yes h) =
          let below : i * n + j < f * n = omega (arith, mul-add-lt i n j f h hj) in
          sym (get_or-take (f * n) (put_row n cells f new) (i * n + j) d below)
          ∙ ap (λ l. get_or l (i * n + j) d) (take-put_mid_below (f * n) n cells new (f * n) (omega arith) (omega arith))
          ∙ get_or-take (f * n) cells (i * n + j) d below
      go (no h) =
          let above : f * n + n ≤ i * n + j = omega (arith, mul-le (suc f) n i n (omega arith) (omega arith)) in
          let past : ℕ = (i * n + j) - (f * n + n) in
          subst (λ u. get_or (put_row n cells f new) u d ≡ get_or cells u d) (let e : (f * n + n) + past ≡ i * n + j = omega arith in e)
          (sym (get_or-drop (f * n + n) (put_row n cells f new) past d)
          ∙ ap (λ l. get_or l past d) (drop-put_mid (f * n) n cells new (f * n + n) (omega arith) (omega arith) fits)
          ∙ get_or-drop (f * n + n) cells past d)

module _ {M : Type 0} (n : ℕ) where
  pub cell_row : (cells : List M) (i j : ℕ) (d : M) → j < n → get_or (row n cells i) j d ≡ get_or cells (i * n + j) d
  cell_row cells i j d hj = get_or-between cells (i * n) (i * n + n) j d (omega arith)

  pub length_row : (cells : List M) (i : ℕ) → i * n + n ≤ length cells → length (row n cells i) ≡ n
  length_row cells i room = length-between cells (i * n) (i * n + n) room ∙ (let e : (i * n + n) - i * n ≡ n = omega arith in e)

module _ {M : Type 0} (o : Ops M) (n : ℕ) where
  -- row f is relaxed by a row of n labels
  pub row_relaxed : (first : M) (cells via : List M) (f : ℕ) → f * n + n ≤ length cells → length via ≡ n → (i j : ℕ) → j < n
      → cell o n (put_row n cells f (relaxed o first (row n cells f) via)) i j ≡ with_ways o first f (λ j. get_or via j o.none) (cell o n cells) i j
  row_relaxed first cells via f room fits i j hj = go (ℕ_discrete f i)
    where
      wide : length (row n cells f) ≡ n
      wide = length_row n cells f room

      long : length (relaxed o first (row n cells f) via) ≡ n
      long = length_relaxed o first (row n cells f) via ∙ wide

      go : Dec (f ≡ i) → cell o n (put_row n cells f (relaxed o first (row n cells f) via)) i j ≡ with_ways o first f (λ j. get_or via j o.none) (cell o n cells) i j
      go (yes e) =
          ap (λ p. cell o n (put_row n cells f (relaxed o first (row n cells f) via)) p j) (sym e)
          ∙ cell_written n cells (relaxed o first (row n cells f) via) f room long j o.none hj
          ∙ get_or_relaxed o first (row n cells f) via j (omega (arith, wide)) (fits ∙ sym wide)
          ∙ ap (λ x. o.join x (o.extend first (get_or via j o.none))) (cell_row n cells f j o.none hj ∙ ap (λ p. cell o n cells p j) e)
          ∙ sym (here f i _ _ e)
      go (no ne) =
          cell_beside n cells (relaxed o first (row n cells f) via) f room long i j o.none hj ne
          ∙ sym (elsewhere f i _ _ ne)
