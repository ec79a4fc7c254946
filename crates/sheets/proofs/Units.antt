-- Units of eight bytes in a list of bytes.
use Rattle.std.proofs.Common.{◌≡◌, ℕ, zero, suc, ◌+◌, ◌-◌, ◌*◌, ◌/◌, ◌<◌, ◌≤◌, List, ◌∷◌, map, length, get_or, take, drop, slice_index, refl, ap, ap₂, ◌∙◌, arith, length-take, length-drop, get_or-take}
use Rattle.std.proofs.lemmas.List.{get_or-drop, drop-drop}
use Rattle.std.specs.List.{range_with_len}
use Rattle.std.specs.Simd.{first_chunks}
use Rattle.sheets.specs.Sheets.{word_at, count_of, offset_of, size_of, entry, entry_at, run_at, run}

-- a field inside a part
word_within : (bytes : List ℕ) (a n i : ℕ) → i + 4 ≤ n → word_at (take n (drop a bytes)) i ≡ word_at bytes (a + i)
unfolding word_at
word_within bytes a n i h =
    let byte : (j m : ℕ) → j < n → a + j ≡ m → slice_index (take n (drop a bytes)) j ≡ slice_index bytes m =
    λ (j m : ℕ) less e. get_or-take n (drop a bytes) j 0 less ∙ get_or-drop a bytes j 0 ∙ ap (slice_index bytes) e
    in
    omega (arith, byte i (a + i) (omega arith) (omega arith), byte (i + 1) (a + i + 1) (omega arith) (omega arith), byte (i + 2) (a + i + 2) (omega arith) (omega arith), byte (i + 3) (a + i + 3) (omega arith) (omega arith))

pub count_read : (bytes first : List ℕ) → first ≡ take 4 bytes → word_at first 0 ≡ count_of bytes
count_read bytes first cut = ap (λ xs. word_at xs 0) cut ∙ word_within bytes 0 4 0 (omega arith)

unit_at : (k : ℕ) (xs : List ℕ) (p : ℕ) (d : List ℕ) → p < k → get_or (first_chunks 8 k xs) p d ≡ take 8 (drop (8 * p) xs)
unit_at zero xs p d h = absurd (omega arith)
unit_at (suc k) xs zero d h = refl
unit_at (suc k) xs (suc p) d h =
    let e : 8 + 8 * p ≡ 8 * suc p = omega arith in
    unit_at k (drop 8 xs) p d (omega arith) ∙ ap (take 8) (drop-drop (8 * p) 8 xs ∙ ap (λ j. drop j xs) e)

-- a field of a unit, of those from a byte on
pub unit_word : (bytes : List ℕ) (a : ℕ) (us : List (List ℕ)) → us ≡ first_chunks 8 (length us) (drop a bytes) → (p i at : ℕ) (d : List ℕ) → p < length us → i + 4 ≤ 8 → a + 8 * p + i ≡ at → word_at (get_or us p d) i ≡ word_at bytes at
unit_word bytes a us cut p i at d h inside e =
    ap (λ xs. word_at (get_or xs p d) i) cut
    ∙ ap (λ u. word_at u i) (unit_at (length us) (drop a bytes) p d h ∙ ap (take 8) (drop-drop (8 * p) a bytes))
    ∙ word_within bytes (a + 8 * p) 8 i inside
    ∙ ap (word_at bytes) e

-- an arc of a run that is read as units
pub entry_read : (run : List ℕ) (us : List (List ℕ)) → us ≡ first_chunks 8 (length us) run → (p j to word : ℕ) (d : List ℕ) → j < length us → to ≡ word_at (get_or us j d) 0 → word ≡ word_at (get_or us j d) 4 → entry p to word ≡ entry_at run p 0 j
entry_read run us cut p j to word d h first second =
    ap₂ (entry p)
    (first ∙ unit_word run 0 us cut j 0 (0 + 8 * j) d h (omega arith) (omega arith))
    (second ∙ unit_word run 0 us cut j 4 (0 + 8 * j + 4) d h (omega arith) (omega arith))

-- the arcs of a run, read in the run's own bytes
module _ (bytes : List ℕ) (p o n : ℕ) (inside : o + n ≤ length bytes) where
  abbrev part : List ℕ
  part = take n (drop o bytes)

  part_entry : (j : ℕ) → 8 * j + 8 ≤ n → entry_at part p 0 j ≡ entry_at bytes p o j
  part_entry j h =
      let to = word_within bytes o n (8 * j) (omega arith) in
      let word = word_within bytes o n (8 * j + 4) (omega arith) in
      let z : 0 + 8 * j ≡ 8 * j = omega arith in
      let a : o + (8 * j + 4) ≡ o + 8 * j + 4 = omega arith in
      ap₂ (entry p) (ap (word_at part) z ∙ to) (ap (λ i. word_at part (i + 4)) z ∙ word ∙ ap (word_at bytes) a)

  part_entries : (j many : ℕ) → 8 * (j + many) ≤ n → map (entry_at part p 0) (range_with_len j many) ≡ map (entry_at bytes p o) (range_with_len j many)
  part_entries j zero h = refl
  part_entries j (suc many) h = ap₂ ◌∷◌ (part_entry j (omega arith)) (part_entries (j + 1) many (omega arith))

  part_run : run_at part p 0 (length part / 8) ≡ run_at bytes p o (n / 8)
  part_run =
      let long : length part ≡ n = simp (length-take, length-drop) (omega arith) in
      ap (λ k. run_at part p 0 (k / 8)) long ∙ part_entries 0 (n / 8) (omega arith)

-- a run as a pair states it
pub run_read : (bytes : List ℕ) (p o s : ℕ) → o ≡ offset_of bytes p → s ≡ size_of bytes p → o + s ≤ length bytes → run_at (take (o + s - o) (drop o bytes)) p 0 (length (take (o + s - o) (drop o bytes)) / 8) ≡ run bytes p
run_read bytes p o s eo es inside =
    let e : o + s - o ≡ s = omega arith in
    ap (λ k. run_at (take k (drop o bytes)) p 0 (length (take k (drop o bytes)) / 8)) e ∙ part_run bytes p o s inside ∙ ap₂ (λ a b. run_at bytes p a (b / 8)) eo es
