-- What is read in the bytes of given runs.
use Rattle.std.proofs.Common.{◌≡◌, ℕ, suc, ◌+◌, ◌*◌, ◌/◌, ◌^◌, ◌<◌, ◌≤◌, List, [], ◌∷◌, ◌++◌, map, length, drop, sym, refl, ap, ◌∙◌, ap₂, add-zero, arith, length-append}
use lib.ListN.{length-map}
use Rattle.std.specs.List.{range_with_len, flat_map, AllByRecursion}
use Rattle.std.proofs.lemmas.List.{append_assoc}
use Rattle.sheets.specs.Sheets.{offset_of, size_of, due, Entry, entry, entry_at, run, run_at, first_unmet, pair_check}
use Rattle.sheets.specs.Layout.{field, Mark, run_bytes, pair_bytes, stated_from}
use Rattle.sheets.proofs.Checks.{unmet_met}
use Rattle.sheets.proofs.Pairs.{PairOk, pair_met, due_next}
use Rattle.sheets.proofs.Fields.{field_read, field_past, length_field}

abbrev of : ℕ → Mark → Entry
of p m = entry p m.to m.word

-- the fields of an entry fit 32 bits
pub record Fit (e : Entry) : Type 0 where
  pub to_fits : e.to < 2 ^ 32
  pub word_fits : e.word < 2 ^ 32

pub all_front : {X : Type 0} (P : X → Type 0) (xs ys : List X) → AllByRecursion P (xs ++ ys) → AllByRecursion P xs × AllByRecursion P ys
all_front P [] ys h = (tt, h)
all_front P (x ∷ xs) ys h = let r = all_front P xs ys h.1 in ((h.0, r.0), r.1)

pub length_run : (r : List Mark) → length (run_bytes r) ≡ 8 * length r
length_run [] = refl
length_run (m ∷ r) =
    let ih = length_run r in
    let a = append_assoc (field m.to) (field m.word) (run_bytes r) in
    ap length a ∙ length_field m.to (field m.word ++ run_bytes r) ∙ ap (λ k. 4 + k) (length_field m.word (run_bytes r)) ∙ omega arith

pub length_runs : (p : ℕ) (rs : List (List Mark)) → length (flat_map run_bytes rs) ≡ 8 * length (stated_from p rs)
length_runs p [] = refl
length_runs p (r ∷ rs) =
    let ih = length_runs (p + 1) rs in
    let a = length_run r in
    let b = length-map r (of p) in
    simp (length-append, b) (omega arith)

pub length_pairs : (at : ℕ) (rs : List (List Mark)) → length (pair_bytes at rs) ≡ 8 * length rs
length_pairs at [] = refl
length_pairs at (r ∷ rs) =
    let ih = length_pairs (at + 8 * length r) rs in
    length_field at (field (8 * length r) ++ pair_bytes (at + 8 * length r) rs) ∙ ap (λ k. 4 + k) (length_field (8 * length r) (pair_bytes (at + 8 * length r) rs)) ∙ omega arith

module _ (bytes : List ℕ) where
  run_read : (p at j : ℕ) (r : List Mark) (rest : List ℕ) → AllByRecursion Fit (map (of p) r) → drop (at + 8 * j) bytes ≡ run_bytes r ++ rest
      → (map (entry_at bytes p at) (range_with_len j (length r)) ≡ map (of p) r) × (drop (at + 8 * (j + length r)) bytes ≡ rest)
  run_read p at j [] rest fit here = (refl, ap (λ k. drop (at + 8 * k) bytes) (add-zero j) ∙ here)
  run_read p at j (m ∷ r) rest fit here =
      let here' : drop (at + 8 * j) bytes ≡ field m.to ++ (field m.word ++ (run_bytes r ++ rest)) = here ∙ simp append_assoc in
      let to = field_read bytes (at + 8 * j) m.to (field m.word ++ (run_bytes r ++ rest)) here' fit.0.to_fits in
      let past = field_past bytes (at + 8 * j) m.to (field m.word ++ (run_bytes r ++ rest)) here' in
      let word = field_read bytes (at + 8 * j + 4) m.word (run_bytes r ++ rest) past fit.0.word_fits in
      let past2 = field_past bytes (at + 8 * j + 4) m.word (run_bytes r ++ rest) past in
      let next : at + 8 * j + 4 + 4 ≡ at + 8 * (j + 1) = omega arith in
      let ih = run_read p at (j + 1) r rest fit.1 (ap (λ k. drop k bytes) (sym next) ∙ past2) in
      let end : at + 8 * (j + suc (length r)) ≡ at + 8 * (j + 1 + length r) = omega arith in
      (ap₂ (λ e es. e ∷ es) (ap₂ (entry p) to word) ih.0, ap (λ k. drop k bytes) end ∙ ih.1)

  pub record Read (p at : ℕ) (rs : List (List Mark)) : Type 0 where
    pub stated : flat_map (run bytes) (range_with_len p (length rs)) ≡ stated_from p rs
    pub paired : first_unmet (map (pair_check bytes) (range_with_len p (length rs))) ≡ 0
    pub ended : due bytes (p + length rs) ≡ at + 8 * length (stated_from p rs)

  pub runs_read : (p at : ℕ) (rs : List (List Mark)) (rest : List ℕ) → AllByRecursion Fit (stated_from p rs)
      → drop (4 + 8 * p) bytes ≡ pair_bytes at rs ++ rest → drop at bytes ≡ flat_map run_bytes rs → due bytes p ≡ at
      → at + 8 * length (stated_from p rs) ≤ length bytes → length bytes < 2 ^ 32 → Read p at rs
  runs_read p at [] rest fit table body begun inside small =
      let e : due bytes (p + 0) ≡ due bytes p = ap (due bytes) (add-zero p) in
      record { stated = refl; paired = refl; ended = omega arith }
  runs_read p at (r ∷ rs) rest fit table body begun inside small =
      let more = at + 8 * length r in
      let l1 = length-append (map (of p) r) (stated_from (p + 1) rs) in
      let l2 = length-map r (of p) in
      let total : length (map (of p) r ++ stated_from (p + 1) rs) ≡ length r + length (stated_from (p + 1) rs) = omega arith in
      let fits = all_front Fit (map (of p) r) (stated_from (p + 1) rs) fit in
      let table' : drop (4 + 8 * p) bytes ≡ field at ++ (field (8 * length r) ++ (pair_bytes (at + 8 * length r) rs ++ rest)) = table ∙ simp append_assoc in
      let off : offset_of bytes p ≡ at = field_read bytes (4 + 8 * p) at (field (8 * length r) ++ (pair_bytes (at + 8 * length r) rs ++ rest)) table' (omega arith) in
      let past = field_past bytes (4 + 8 * p) at (field (8 * length r) ++ (pair_bytes (at + 8 * length r) rs ++ rest)) table' in
      let size : size_of bytes p ≡ 8 * length r = field_read bytes (4 + 8 * p + 4) (8 * length r) (pair_bytes (at + 8 * length r) rs ++ rest) past (omega arith) in
      let past2 = field_past bytes (4 + 8 * p + 4) (8 * length r) (pair_bytes (at + 8 * length r) rs ++ rest) past in
      let next : 4 + 8 * p + 4 + 4 ≡ 4 + 8 * (p + 1) = omega arith in
      let z : at + 8 * 0 ≡ at = omega arith in
      let here = run_read p at 0 r (flat_map run_bytes rs) fits.0 (ap (λ k. drop k bytes) z ∙ body) in
      let z2 : at + 8 * (0 + length r) ≡ at + 8 * length r = omega arith in
      let many : size_of bytes p / 8 ≡ length r = omega arith in
      let this : run bytes p ≡ map (of p) r = ap₂ (run_at bytes p) off many ∙ here.0 in
      let ok : PairOk bytes p = record { placed = off ∙ sym begun; whole = omega arith; inside = omega arith } in
      let due' : due bytes (p + 1) ≡ at + 8 * length r = due_next bytes p ∙ ap₂ ◌+◌ off size in
      let ih = runs_read (p + 1) (at + 8 * length r) rs rest fits.1 (ap (λ k. drop k bytes) (sym next) ∙ past2) (ap (λ k. drop k bytes) (sym z2) ∙ here.1) due' (omega arith) small in
      let shift : due bytes (p + suc (length rs)) ≡ due bytes (p + 1 + length rs) = let e : p + suc (length rs) ≡ p + 1 + length rs = omega arith in ap (due bytes) e in
      record {
        stated = ap₂ ◌++◌ this ih.stated;
        paired = unmet_met (pair_check bytes p) _ (pair_met bytes p ok) ∙ ih.paired;
        ended = shift ∙ ih.ended ∙ omega arith;
      }
