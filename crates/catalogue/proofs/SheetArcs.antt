-- What a sheet that meets its checks means.
use Rattle.std.proofs.Common.{◌≡◌, ℕ, zero, suc, ◌+◌, ◌-◌, ◌*◌, ◌/◌, ◌<◌, ◌≤◌, true, false, List, map, length, get_or, is_ok, Some, None, Ok, Option, Result, unwrap_or, sym, refl, ap, ◌∙◌, arith}
use Rattle.std.proofs.lemmas.Bool.{false≢true}
use Rattle.paths.specs.Arcs.{arc}
use Rattle.sheets.specs.Sheets.{word_at, offset_of, count_of, entries, sheet_check}
use Rattle.sheets.specs.Layout.{Mark, States}
use Rattle.sheets.proofs.Stock.{nth_map}
use Rattle.sheets.proofs.Passes.{all_met, entries_length, entry_found, unnamed_not}
use Rattle.sheets.proofs.Accepted.{accepts, counts, states}
use Rattle.sheets.proofs.Unread.{runs_of, states_runs}
use Rattle.sheets.proofs.Unique.{unique}
use Rattle.catalogue.specs.Meanings.{Meaning}
use Rattle.catalogue.specs.Calls.{arc_at, unheld}
use Rattle.catalogue.specs.SheetMeanings.{labelled, by_number, arc_of, sheet, sheet_made, stated, Exactly}

module _ {L : Type 0} (named : ℕ → Option L) (none : L) (bytes : List ℕ) where
  module _ (met : sheet_check named bytes ≡ 0) where
    pub arcs_many : (length bytes - (4 + 8 * count_of bytes)) / 8 ≡ length (entries bytes)
    arcs_many =
        let m = all_met named bytes met in
        let total = entries_length named bytes m.pairs in
        let ends = m.ends in
        omega arith

    -- the place of an arc, and its source
    pub arc_found : (k q at : ℕ) → k < length (entries bytes) → at ≡ 4 + 8 * count_of bytes + 8 * k → q < count_of bytes → offset_of bytes q ≤ at → (q + 1 < count_of bytes → at < offset_of bytes (q + 1))
        → labelled q (word_at bytes at) (named (word_at bytes (at + 4))) ≡ arc_at (sheet named none bytes) k
    arc_found k q at inside here q<n begun last =
        let found = ap (unheld (sheet named none bytes)) (nth_map (arc_of named none) (entries bytes) k _ (entry_found named bytes met k q at inside here q<n begun last)) in
        go (named (word_at bytes (at + 4))) refl ∙ sym found
      where
        go : (x : Option L) → named (word_at bytes (at + 4)) ≡ x → labelled q (word_at bytes at) x ≡ Some (arc q (word_at bytes at) (unwrap_or x none))
        go None e = absurd (unnamed_not named bytes met k q at inside here q<n begun last (word_at bytes (at + 4)) refl (sym e))
        go (Some l) e = refl

  read_zero : (v : ℕ) → is_ok (by_number v (sheet named none bytes)) ≡ true → v ≡ 0
  read_zero zero h = refl
  read_zero (suc k) h = absurd (false≢true h)

  pub exactly : ((i : ℕ) → get_or bytes i 0 < 256) → (told : Result (Meaning L) ℕ) → told ≡ sheet_made named none bytes → Exactly named none bytes told
  exactly small told e = record {
    sound = λ h. (runs_of bytes small, states_runs bytes small named (read_zero (sheet_check named bytes) (ap is_ok (sym e) ∙ h)));
    full = λ runs s. e ∙ ap (λ v. by_number v (sheet named none bytes)) (accepts named runs s.lawful bytes s.layout) ∙ ap Ok (means runs s);
    unique = unique named bytes;
  }
    where
      means : (runs : List (List Mark)) → States named bytes runs → sheet named none bytes ≡ stated named none runs
      means runs s =
          let n = counts named runs s.lawful bytes s.layout in
          let stock = ap (map (arc_of named none)) (states named runs s.lawful bytes s.layout) in
          λ i. record { n = n i; stock = stock i; places = 0; sealed = true; held = λ _. false; holds = 0 }
