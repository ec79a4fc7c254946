-- A table written out as a list.
use Rattle.std.proofs.Common.{◌≡◌, ℕ, zero, suc, ◌+◌, ◌*◌, ◌/◌, ◌%◌, ◌<◌, List, [], ◌∷◌, map, length, get_or, take, sym, ap, ◌∙◌, ap₂, suc-mul, arith, length-append}
use Rattle.std.specs.List.{range_with_len, flat_map}
use Rattle.std.proofs.lemmas.List.FromFn.{length-range_with_len, get_or-range_with_len, length-map-range_with_len, get_or-map-range_with_len}
use Rattle.std.proofs.lemmas.List.Concat.{get_or-flat_map}
use Rattle.std.proofs.lemmas.List.{ext_get_or, length-take-le}
use Rattle.std.proofs.lemmas.Nat.{div_below, mod_below, div-add-mod'}
use Rattle.labels.specs.Algebra.{Ops}
use Rattle.paths.specs.Tables.{table, Shows}

module _ {K : Type 0} (n : ℕ) (f : ℕ → ℕ → K) where
  abbrev row : ℕ → List K
  row i = map (f i) (range_with_len 0 n)

  length_rows : (rows : List ℕ) → length (flat_map row rows) ≡ length rows * n
  length_rows [] = omega arith
  length_rows (i ∷ rows) =
      length-append (row i) (flat_map row rows) ∙ ap₂ ◌+◌ (length-map-range_with_len (f i) 0 n) (length_rows rows)
      ∙ omega (arith, suc-mul (length rows) n)

  pub length_table : length (table n f) ≡ n * n
  length_table = length_rows (range_with_len 0 n) ∙ ap (λ k. k * n) (length-range_with_len 0 n)

  pub get_or_table : (i j : ℕ) (d : K) → i < n → j < n → get_or (table n f) (i * n + j) d ≡ f i j
  get_or_table i j d hi hj =
      let all = range_with_len 0 n in
      let r = get_or all i 0 in
      let above : length (flat_map row (take i all)) ≡ i * n = length_rows (take i all) ∙ ap (λ k. k * n) (length-take-le i all (omega (arith, length-range_with_len 0 n))) in
      ap (λ u. get_or (table n f) (u + j) d) (sym above)
      ∙ get_or-flat_map row all i j 0 d (omega (arith, length-range_with_len 0 n)) (omega (arith, length-map-range_with_len (f r) 0 n))
      ∙ get_or-map-range_with_len (f r) 0 n j j d hj (omega arith)
      ∙ ap (λ p. f p j) (get_or-range_with_len 0 n i 0 hi ∙ omega arith)

  -- n × n cells that are those of the table are that table written out
  pub written : (d : K) (cells : List K) → length cells ≡ n * n → ((i j : ℕ) → i < n → j < n → get_or cells (i * n + j) d ≡ f i j) → cells ≡ table n f
  written d cells size shows = ext_get_or d cells (table n f) (size ∙ sym length_table) each
    where
      each : (u : ℕ) → u < length cells → get_or cells u d ≡ get_or (table n f) u d
      each u h =
          let some : 0 < n = positive n (omega (arith, h, size)) in
          let row : u / n < n = div_below u n n some (omega (arith, h, size)) in
          let column : u % n < n = mod_below u n some in
          ap (λ v. get_or cells v d) (sym (div-add-mod' u n))
          ∙ shows (u / n) (u % n) row column ∙ sym (get_or_table (u / n) (u % n) d row column)
          ∙ ap (λ v. get_or (table n f) v d) (div-add-mod' u n)
        where
          positive : (k : ℕ) → u < k * k → 0 < k
          positive zero p = absurd (omega arith)
          positive (suc k) p = omega arith

module _ {K : Type 0} (o : Ops K) (n : ℕ) where
  pub shown : (cells : List K) (T : ℕ → ℕ → K) → length cells ≡ n * n → Shows o n cells T → cells ≡ table n T
  shown cells T size shows = written n T o.none cells size shows

  pub shows_table : (T : ℕ → ℕ → K) → Shows o n (table n T) T
  shows_table T i j hi hj = get_or_table n T i j o.none hi hj

  pub table_cong : (T U : ℕ → ℕ → K) → ((i j : ℕ) → i < n → j < n → T i j ≡ U i j) → table n T ≡ table n U
  table_cong T U same = shown (table n T) U (length_table n T) (λ i j hi hj. get_or_table n T i j o.none hi hj ∙ same i j hi hj)
