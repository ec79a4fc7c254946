-- The sheet of lawful runs is accepted, and states their arcs.
use Rattle.std.proofs.Common.{◌≡◌, ℕ, ◌+◌, ◌*◌, not, ◌&&◌, eqb, ltb, leb, List, [], ◌∷◌, ◌++◌, map, length, drop, is_some, Option, sym, refl, ap, ◌∙◌, ap₂, arith, length-append}
use Rattle.std.specs.List.{range_with_len, flat_map, AllByRecursion}
use Rattle.std.proofs.lemmas.List.{drop-drop, drop_at}
use Rattle.std.proofs.lemmas.Bool.{and_from, le-leb, lt-ltb, eq-eqb, ne_eqb, not_from_false}
use Rattle.sheets.specs.Sheets.{count_of, due, Entry, run, entries, first_unmet, pair_check, pair_checks, entry_check, sheet_check}
use Rattle.sheets.specs.Layout.{Mark, run_bytes, pair_bytes, sheet_bytes, stated_from, EntryOk, Lawful}
use Rattle.sheets.proofs.Checks.{unmet_met, passed}
use Rattle.sheets.proofs.Fields.{field_read, field_past, length_field}
use Rattle.sheets.proofs.Stages.{by_arcs}
use Rattle.sheets.proofs.Written.{Fit, Read, runs_read, length_runs, length_pairs}

pub all_weaker : {X : Type 0} (P Q : X → Type 0) (xs : List X) → ((x : X) → P x → Q x) → AllByRecursion P xs → AllByRecursion Q xs
all_weaker P Q [] w h = tt
all_weaker P Q (x ∷ xs) w h = (w x h.0, all_weaker P Q xs w h.1)

module _ {L : Type 0} (named : ℕ → Option L) where
  entry_met : (n : ℕ) (e : Entry) → EntryOk named n e → entry_check named n e ≡ 0
  entry_met n e ok =
      passed 5 (ltb e.from n && ltb e.to n) _ (and_from (ltb e.from n) (ltb e.to n) (lt-ltb e.from n ok.from_in) (lt-ltb e.to n ok.to_in))
      ∙ passed 6 (not (eqb e.from e.to)) _ (not_from_false (eqb e.from e.to) (ne_eqb e.from e.to ok.apart))
      ∙ passed 3 (is_some (named e.word)) _ ok.labelled

  entries_met : (n : ℕ) (es : List Entry) → AllByRecursion (EntryOk named n) es → first_unmet (map (entry_check named n) es) ≡ 0
  entries_met n [] h = refl
  entries_met n (e ∷ es) h = unmet_met (entry_check named n e) _ (entry_met n e h.0) ∙ entries_met n es h.1

  module _ (runs : List (List Mark)) (law : Lawful named runs) (bytes : List ℕ) (same : bytes ≡ sheet_bytes runs) where
    abbrev n : ℕ
    n = length runs

    pub counts : count_of bytes ≡ n
    counts = field_read bytes 0 n (pair_bytes (4 + 8 * n) runs ++ flat_map run_bytes runs) same (omega (arith, law.most))

    table : drop (4 + 8 * 0) bytes ≡ pair_bytes (4 + 8 * n) runs ++ flat_map run_bytes runs
    table = field_past bytes 0 n (pair_bytes (4 + 8 * n) runs ++ flat_map run_bytes runs) same

    body : drop (4 + 8 * n) bytes ≡ flat_map run_bytes runs
    body =
        sym (drop-drop (8 * n) 4 bytes) ∙ ap (drop (8 * n)) table
        ∙ drop_at (pair_bytes (4 + 8 * n) runs) (flat_map run_bytes runs) (8 * n) (length_pairs (4 + 8 * n) runs)

    long : length bytes ≡ 4 + 8 * n + 8 * length (stated_from 0 runs)
    long =
        let a = length_field n (pair_bytes (4 + 8 * n) runs ++ flat_map run_bytes runs) in
        let b = length-append (pair_bytes (4 + 8 * n) runs) (flat_map run_bytes runs) in
        let c = length_pairs (4 + 8 * n) runs in
        let d = length_runs 0 runs in
        ap length same ∙ omega arith

    fits : AllByRecursion Fit (stated_from 0 runs)
    fits = all_weaker (EntryOk named n) Fit (stated_from 0 runs) (λ e ok. record { to_fits = omega (arith, ok.to_in, law.most); word_fits = ok.fits }) law.arcs

    reads : Read bytes 0 (4 + 8 * n) runs
    reads = runs_read bytes 0 (4 + 8 * n) runs (flat_map run_bytes runs) fits table body (ap (λ k. 4 + 8 * k) counts) (omega (arith, long)) (omega (arith, long, law.few, law.most))

    pub states : entries bytes ≡ stated_from 0 runs
    states = ap (λ k. flat_map (run bytes) (range_with_len 0 k)) counts ∙ reads.stated

    pub accepts : sheet_check named bytes ≡ 0
    accepts =
        let z : 0 + n ≡ n = omega arith in
        let pairs : first_unmet (pair_checks bytes) ≡ 0 = ap (λ k. first_unmet (map (pair_check bytes) (range_with_len 0 k))) counts ∙ reads.paired in
        let ends : due bytes (count_of bytes) ≡ length bytes = ap (due bytes) (counts ∙ sym z) ∙ reads.ended ∙ sym long in
        let few : length (entries bytes) ≡ length (stated_from 0 runs) = ap length states in
        let arcs = ap₂ (λ k es. first_unmet (map (entry_check named k) es)) counts states ∙ entries_met n (stated_from 0 runs) law.arcs in
        let limits = and_from (leb 1 (count_of bytes)) (leb (count_of bytes) 1024) (le-leb 1 (count_of bytes) (omega (arith, law.some, counts))) (le-leb (count_of bytes) 1024 (omega (arith, law.most, counts))) in
        let ended = and_from (eqb (due bytes (count_of bytes)) (length bytes)) (leb (length (entries bytes)) 65536) (eq-eqb (due bytes (count_of bytes)) (length bytes) ends) (le-leb (length (entries bytes)) 65536 (omega (arith, law.few, few))) in
        sym (by_arcs named bytes (omega (arith, long)) limits (omega (arith, long, counts)) (sym pairs) ended) ∙ arcs
