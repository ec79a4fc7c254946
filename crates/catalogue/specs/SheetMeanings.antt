-- What a sheet means, and what the reading of one answers.
use Rattle.std.specs.Prelude.{◌≡◌, ℕ, zero, suc, ◌+◌, ◌*◌, ◌<◌, true, false, List, map, length, slice_index_or, is_ok, Some, None, Ok, Err, Option, Result}
use Rattle.std.specs.Option.{unwrap_or}
use Rattle.paths.specs.declared.arc.Arc.{Arc}
use Rattle.paths.specs.Arcs.{arc}
use Rattle.sheets.specs.Sheets.{Entry, word_at, count_of, entries, sheet_check}
use Rattle.sheets.specs.Layout.{Mark, States, stated_from}
use Rattle.catalogue.specs.Refusals.{Refusal, number}
use Rattle.catalogue.specs.Meanings.{Meaning}

-- units that each hold the two fields of eight bytes, of the bytes from one on
pub record Units (bytes : List ℕ) (from : ℕ) (units : List (List ℕ)) : Type 0 where
  pub first : (k : ℕ) (d : List ℕ) → k < length units → word_at (slice_index_or units k d) 0 ≡ word_at bytes (from + 8 * k)
  pub second : (k : ℕ) (d : List ℕ) → k < length units → word_at (slice_index_or units k d) 4 ≡ word_at bytes (from + 8 * k + 4)

-- 0 where accepted, else the refusal's number
abbrev pub verdict : {A : Type 0} → Result A Refusal → ℕ
verdict (Ok v) = 0
verdict (Err e) = number e

-- the answer by that number
abbrev pub by_number : {A : Type 0} → ℕ → A → Result A ℕ
by_number zero m = Ok m
by_number (suc k) m = Err (suc k)

module _ {L : Type 0} where
  -- an arc with these ends, if it has a label
  abbrev pub labelled : ℕ → ℕ → Option L → Option (Arc L)
  labelled f t None = None
  labelled f t (Some l) = Some (arc f t l)

  module _ (named : ℕ → Option L) where
    -- what a sheet that was read keeps
    pub record SheetOk (n arcs : ℕ) (bytes : List ℕ) : Type 0 where
      pub count : n ≡ count_of bytes
      pub stocked : arcs ≡ length (entries bytes)
      pub met : sheet_check named bytes ≡ 0

    module _ (none : L) where
      abbrev pub arc_of : Entry → Arc L
      arc_of e = arc e.from e.to (unwrap_or (named e.word) none)

      abbrev pub sheet : List ℕ → Meaning L
      sheet bytes = record { n = count_of bytes; stock = map arc_of (entries bytes); places = 0; sealed = true; held = λ _. false; holds = 0 }

      abbrev pub sheet_made : List ℕ → Result (Meaning L) ℕ
      sheet_made bytes = by_number (sheet_check named bytes) (sheet bytes)

      -- what runs state: as many packages as runs, and the arcs of the runs in order
      abbrev pub stated : List (List Mark) → Meaning L
      stated runs = record { n = length runs; stock = map arc_of (stated_from 0 runs); places = 0; sealed = true; held = λ _. false; holds = 0 }

      -- the reading accepts exactly the sheets of lawful runs, which are unique, and then means what they state
      pub record Exactly (bytes : List ℕ) (told : Result (Meaning L) ℕ) : Type 0 where
        pub sound : is_ok told ≡ true → (runs : List (List Mark)) × States named bytes runs
        pub full : (runs : List (List Mark)) → States named bytes runs → told ≡ Ok (stated runs)
        pub unique : (xs ys : List (List Mark)) → States named bytes xs → States named bytes ys → xs ≡ ys
