-- The checks of a sheet, one after the other.
use Rattle.std.proofs.Common.{◌≡◌, ℕ, ◌+◌, ◌*◌, ◌<◌, ◌≤◌, true, false, leb, List, ◌∷◌, ◌++◌, map, length, Option, sym, ◌∙◌}
use Rattle.std.proofs.lemmas.Bool.{le-leb, lt-leb}
use Rattle.sheets.specs.Sheets.{count_of, due, entries, first_unmet, check, count_test, end_test, pair_checks, entry_check, sheet_check}
use Rattle.sheets.proofs.Checks.{passed, failed, unmet_append, stopped_in}

module _ {L : Type 0} (named : ℕ → Option L) (bytes : List ℕ) where
  abbrev arc_checks : List ℕ
  arc_checks = map (entry_check named (count_of bytes)) (entries bytes)

  abbrev ending : List ℕ
  ending = check 2 (end_test (due bytes (count_of bytes)) (length bytes) (length (entries bytes))) ∷ arc_checks

  abbrev tabled : List ℕ
  tabled = check 2 (leb (4 + 8 * count_of bytes) (length bytes)) ∷ (pair_checks bytes ++ ending)

  pub too_short : length bytes < 4 → 2 ≡ sheet_check named bytes
  unfolding sheet_check
  too_short h = sym (failed 1 (leb 4 (length bytes)) _ (lt-leb 4 (length bytes) h))

  module _ (long : 4 ≤ length bytes) where
    opened : sheet_check named bytes ≡ first_unmet (check 1 (count_test (count_of bytes)) ∷ tabled)
    unfolding sheet_check
    opened = passed 1 (leb 4 (length bytes)) _ (le-leb 4 (length bytes) long)

    pub bad_count : count_test (count_of bytes) ≡ false → 1 ≡ sheet_check named bytes
    bad_count h = sym (opened ∙ failed 0 (count_test (count_of bytes)) _ h)

    module _ (limits : count_test (count_of bytes) ≡ true) where
      counted : sheet_check named bytes ≡ first_unmet tabled
      counted = opened ∙ passed 0 (count_test (count_of bytes)) _ limits

      pub no_table : length bytes < 4 + 8 * count_of bytes → 2 ≡ sheet_check named bytes
      no_table h = sym (counted ∙ failed 1 _ _ (lt-leb (4 + 8 * count_of bytes) (length bytes) h))

      module _ (table : 4 + 8 * count_of bytes ≤ length bytes) where
        paired : sheet_check named bytes ≡ first_unmet (pair_checks bytes ++ ending)
        paired = counted ∙ passed 1 _ _ (le-leb (4 + 8 * count_of bytes) (length bytes) table)

        pub bad_pair : (v : ℕ) → v ≡ first_unmet (pair_checks bytes) → 0 < v → v ≡ sheet_check named bytes
        bad_pair v e pos = sym (paired ∙ stopped_in (pair_checks bytes) _ v (sym e) pos)

        module _ (pairs : 0 ≡ first_unmet (pair_checks bytes)) where
          ended : sheet_check named bytes ≡ first_unmet ending
          ended = paired ∙ unmet_append (pair_checks bytes) ending (sym pairs)

          pub bad_end : end_test (due bytes (count_of bytes)) (length bytes) (length (entries bytes)) ≡ false → 2 ≡ sheet_check named bytes
          bad_end h = sym (ended ∙ failed 1 (end_test (due bytes (count_of bytes)) (length bytes) (length (entries bytes))) arc_checks h)

          pub by_arcs : end_test (due bytes (count_of bytes)) (length bytes) (length (entries bytes)) ≡ true → first_unmet (map (entry_check named (count_of bytes)) (entries bytes)) ≡ sheet_check named bytes
          by_arcs h = sym (ended ∙ passed 1 (end_test (due bytes (count_of bytes)) (length bytes) (length (entries bytes))) arc_checks h)
