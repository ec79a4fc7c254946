-- The pairs whose runs begin at or before a byte come first, of those from a package on.
use Rattle.std.proofs.Common.{◌≡◌, ℕ, ◌+◌, ◌<◌, ◌≤◌, false, true, leb, List, [], length, get_or, ap, ◌∙◌, ⊎_elim, arith}
use Rattle.std.specs.List.Sorted.{IsPartitionedBy, IsPartitionPoint}
use Rattle.std.proofs.lemmas.Bool.{cases_lt, leb-true, leb-false}
use Rattle.std.proofs.lemmas.List.Sorted.{IsPartitionedBy-leb}
use Rattle.sheets.specs.Sheets.{word_at, count_of, offset_of, first_unmet, pair_checks}
use Rattle.sheets.proofs.Pairs.{pairs_ok}
use Rattle.sheets.proofs.Stock.{offsets_rise}

module _ (bytes : List ℕ) (from : ℕ) (pairs : List (List ℕ)) (at : ℕ) (all : from + length pairs ≡ count_of bytes) (offsets : (p : ℕ) (d : List ℕ) → from + p < count_of bytes → word_at (get_or pairs p d) 0 ≡ offset_of bytes (from + p)) where
  abbrev begins : List ℕ → ℕ
  begins pair = word_at pair 0

  pub parted : first_unmet (pair_checks bytes) ≡ 0 → IsPartitionedBy (λ pair. leb (begins pair) at) pairs
  parted met = IsPartitionedBy-leb begins pairs at
      (λ (i j : ℕ) (d : List ℕ) below inside.
      let a = offsets i d (omega arith) in
      let b = offsets j d (omega arith) in
      let rise = offsets_rise bytes (from + i) (from + j) (count_of bytes) (omega arith) (omega arith) (pairs_ok bytes met) in
      omega arith)

  module _ (i : ℕ) (point : IsPartitionPoint (λ pair. leb (begins pair) at ≡ true) (λ pair. leb (begins pair) at ≡ false) pairs i) where
    pub begun_before : (p q : ℕ) → from + p ≡ q → p < i → q < count_of bytes → offset_of bytes q ≤ at
    begun_before p q here low inside =
        let e = offsets p [] (omega arith) ∙ ap (offset_of bytes) here in
        let t = leb-true (begins (get_or pairs p [])) at (point.0 p [] (omega arith) low) in
        omega arith

    pub begun_after : (p q : ℕ) → from + p ≡ q → i ≤ p → q < count_of bytes → at < offset_of bytes q
    begun_after p q here high inside =
        let e = offsets p [] (omega arith) ∙ ap (offset_of bytes) here in
        let t = leb-false (begins (get_or pairs p [])) at (point.1 p [] high (omega arith)) in
        omega arith

    pub begun_some : from < count_of bytes → offset_of bytes from ≤ at → 1 ≤ i
    begun_some some first = ⊎_elim (λ none. let late = begun_after 0 from (omega arith) (omega arith) some in absurd (omega arith)) (λ more. more) (cases_lt i 1)
