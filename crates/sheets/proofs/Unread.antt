-- A sheet that is accepted is the sheet of the runs that it states.
use Rattle.std.proofs.Common.{◌≡◌, ℕ, zero, suc, ◌+◌, ◌*◌, ◌/◌, ◌%◌, ◌^◌, ◌<◌, ◌≤◌, not, ◌&&◌, eqb, ltb, List, [], ◌∷◌, ◌++◌, map, length, get_or, drop, is_some, Option, sym, refl, ap, ◌∙◌, subst, ap₂, add-zero, arith}
use Rattle.std.specs.List.{range_with_len, flat_map, AllByRecursion}
use Rattle.std.proofs.lemmas.List.FromFn.{length-map-range_with_len}
use Rattle.std.proofs.lemmas.List.{append_assoc, append-nil, drop_all}
use Rattle.std.proofs.lemmas.Bool.{and_parts, ltb-true, eqb-false, not-true}
use Rattle.sheets.specs.Sheets.{word_at, count_of, offset_of, size_of, due, Entry, entry, entry_at, run, entries, first_unmet, entry_check, sheet_check}
use Rattle.sheets.specs.Layout.{field, Mark, run_bytes, pair_bytes, stated_from, EntryOk, States}
use Rattle.sheets.proofs.Checks.{met_cons, head_met}
use Rattle.sheets.proofs.Pairs.{PairOk, pairs_ok, due_next}
use Rattle.sheets.proofs.Passes.{all_met}
use Rattle.sheets.proofs.Fields.{field_written}

map_map : {X Y Z : Type 0} (f : Y → Z) (g : X → Y) (xs : List X) → map f (map g xs) ≡ map (λ x. f (g x)) xs
map_map f g [] = refl
map_map f g (x ∷ xs) = ap (λ ys. f (g x) ∷ ys) (map_map f g xs)

all_back : {X : Type 0} (P : X → Type 0) (xs ys : List X) → AllByRecursion P xs → AllByRecursion P ys → AllByRecursion P (xs ++ ys)
all_back P [] ys h k = k
all_back P (x ∷ xs) ys h k = (h.0, all_back P xs ys h.1 k)

all_mapped : {X Y : Type 0} (P : Y → Type 0) (f : X → Y) (xs : List X) → ((x : X) → P (f x)) → AllByRecursion P (map f xs)
all_mapped P f [] h = tt
all_mapped P f (x ∷ xs) h = (h x, all_mapped P f xs h)

all_joined : {X Y : Type 0} (P : Y → Type 0) (f : X → List Y) (xs : List X) → ((x : X) → AllByRecursion P (f x)) → AllByRecursion P (flat_map f xs)
all_joined P f [] h = tt
all_joined P f (x ∷ xs) h = all_back P (f x) (flat_map f xs) (h x) (all_joined P f xs h)

module _ {L : Type 0} (named : ℕ → Option L) (n : ℕ) where
  entry_law : (e : Entry) → entry_check named n e ≡ 0 → e.word < 2 ^ 32 → EntryOk named n e
  entry_law e h w =
      let a = met_cons 5 (ltb e.from n && ltb e.to n) _ h in
      let b = met_cons 6 (not (eqb e.from e.to)) _ a.1 in
      let c = met_cons 3 (is_some (named e.word)) _ b.1 in
      let a' = and_parts (ltb e.from n) (ltb e.to n) a.0 in
      record {
        from_in = ltb-true e.from n a'.0;
        to_in = ltb-true e.to n a'.1;
        apart = eqb-false e.from e.to (not-true (eqb e.from e.to) b.0);
        labelled = c.0;
        fits = w;
      }

  entries_law : (es : List Entry) → first_unmet (map (entry_check named n) es) ≡ 0 → AllByRecursion (λ e. e.word < 2 ^ 32) es → AllByRecursion (EntryOk named n) es
  entries_law [] h w = tt
  entries_law (e ∷ es) h w =
      let b = head_met (entry_check named n e) (map (entry_check named n) es) h in
      (entry_law e b.0 w.0, entries_law es b.1 w.1)

module _ (bytes : List ℕ) (small : (i : ℕ) → get_or bytes i 0 < 256) where
  word_fits : (at : ℕ) → word_at bytes at < 2 ^ 32
  unfolding word_at
  word_fits at = omega (arith, small at, small (at + 1), small (at + 2), small (at + 3))

  abbrev mark_at : ℕ → ℕ → Mark
  mark_at at j = record { to = word_at bytes (at + 8 * j); word = word_at bytes (at + 8 * j + 4) }

  -- the run of package p, and all runs
  abbrev marks : ℕ → List Mark
  marks p = map (mark_at (offset_of bytes p)) (range_with_len 0 (size_of bytes p / 8))

  abbrev pub runs_of : List (List Mark)
  runs_of = map marks (range_with_len 0 (count_of bytes))

  marks_length : (p : ℕ) → length (marks p) ≡ size_of bytes p / 8
  marks_length p = length-map-range_with_len (mark_at (offset_of bytes p)) 0 (size_of bytes p / 8)

  run_written : (at j m : ℕ) → at + 8 * (j + m) ≤ length bytes → drop (at + 8 * j) bytes ≡ run_bytes (map (mark_at at) (range_with_len j m)) ++ drop (at + 8 * (j + m)) bytes
  run_written at j zero h = ap (λ k. drop (at + 8 * k) bytes) (sym (add-zero j))
  run_written at j (suc m) h =
      let a = field_written bytes (at + 8 * j) small (omega arith) in
      let b = field_written bytes (at + 8 * j + 4) small (omega arith) in
      let next : at + 8 * j + 4 + 4 ≡ at + 8 * (j + 1) = omega arith in
      let end : at + 8 * (j + 1 + m) ≡ at + 8 * (j + suc m) = omega arith in
      let ih = run_written at (j + 1) m (omega arith) in
      let to = word_at bytes (at + 8 * j) in
      let word = word_at bytes (at + 8 * j + 4) in
      let rest = run_bytes (map (mark_at at) (range_with_len (j + 1) m)) in
      a ∙ ap (λ xs. field to ++ xs) (b ∙ ap (λ xs. field word ++ xs) (ap (λ k. drop k bytes) next ∙ ih ∙ ap (λ k. rest ++ drop k bytes) end))
      ∙ simp append_assoc

  abbrev Upto : ℕ → Type 0
  Upto n = (q : ℕ) → q < n → PairOk bytes q

  pairs_written : (p m n : ℕ) → p + m ≡ n → Upto n → 4 + 8 * n ≤ length bytes → drop (4 + 8 * p) bytes ≡ pair_bytes (due bytes p) (map marks (range_with_len p m)) ++ drop (4 + 8 * n) bytes
  pairs_written p zero n e ok h = let z : p ≡ n = omega arith in ap (λ k. drop (4 + 8 * k) bytes) z
  pairs_written p (suc m) n e ok h =
      let pair = ok p (omega arith) in
      let whole : size_of bytes p % 8 ≡ 0 = pair.whole in
      let long = marks_length p in
      let a = field_written bytes (4 + 8 * p) small (omega arith) in
      let b = field_written bytes (4 + 8 * p + 4) small (omega arith) in
      let next : 4 + 8 * p + 4 + 4 ≡ 4 + 8 * (p + 1) = omega arith in
      let size : size_of bytes p ≡ 8 * length (marks p) = omega arith in
      let begun : due bytes (p + 1) ≡ due bytes p + 8 * length (marks p) = due_next bytes p ∙ ap₂ ◌+◌ pair.placed size in
      let ih = pairs_written (p + 1) m n (omega arith) ok h in
      let runs = map marks (range_with_len (p + 1) m) in
      let tail = ap (λ k. drop k bytes) next ∙ ih ∙ ap (λ k. pair_bytes k runs ++ drop (4 + 8 * n) bytes) begun in
      a ∙ ap₂ (λ k xs. field k ++ xs) pair.placed (b ∙ ap₂ (λ k xs. field k ++ xs) size tail)
      ∙ simp append_assoc

  bodies_written : (p m n : ℕ) → p + m ≡ n → Upto n → drop (due bytes p) bytes ≡ flat_map run_bytes (map marks (range_with_len p m)) ++ drop (due bytes n) bytes
  bodies_written p zero n e ok = let z : p ≡ n = omega arith in ap (λ k. drop (due bytes k) bytes) z
  bodies_written p (suc m) n e ok =
      let pair = ok p (omega arith) in
      let whole : size_of bytes p % 8 ≡ 0 = pair.whole in
      let inside = pair.inside in
      let z : offset_of bytes p ≡ offset_of bytes p + 8 * 0 = omega arith in
      let end : offset_of bytes p + 8 * (0 + size_of bytes p / 8) ≡ offset_of bytes p + size_of bytes p = omega arith in
      let here = run_written (offset_of bytes p) 0 (size_of bytes p / 8) (omega arith) in
      let ih = bodies_written (p + 1) m n (omega arith) ok in
      let tail = ap (λ k. drop k bytes) (end ∙ sym (due_next bytes p)) ∙ ih in
      ap (λ k. drop k bytes) (sym pair.placed ∙ z) ∙ here ∙ ap (λ xs. run_bytes (marks p) ++ xs) tail
      ∙ simp append_assoc

  entries_stated : (p m : ℕ) → flat_map (run bytes) (range_with_len p m) ≡ stated_from p (map marks (range_with_len p m))
  entries_stated p zero = refl
  entries_stated p (suc m) =
      ap₂ ◌++◌ (sym (map_map (λ (x : Mark). entry p x.to x.word) (mark_at (offset_of bytes p)) (range_with_len 0 (size_of bytes p / 8)))) (entries_stated (p + 1) m)

  words_fit : AllByRecursion (λ e. e.word < 2 ^ 32) (entries bytes)
  words_fit =
      all_joined (λ e. e.word < 2 ^ 32) (run bytes) (range_with_len 0 (count_of bytes))
      (λ p. all_mapped (λ e. e.word < 2 ^ 32) (entry_at bytes p (offset_of bytes p)) (range_with_len 0 (size_of bytes p / 8)) (λ j. word_fits (offset_of bytes p + 8 * j + 4)))

  pub states_runs : {L : Type 0} (named : ℕ → Option L) → sheet_check named bytes ≡ 0 → States named bytes runs_of
  states_runs named e =
      let m = all_met named bytes e in
      let n = count_of bytes in
      let ok = pairs_ok bytes m.pairs in
      let count : length runs_of ≡ count_of bytes = length-map-range_with_len marks 0 n in
      let table = m.table in
      let first = field_written bytes 0 small (omega arith) in
      let pairs = pairs_written 0 n n (omega arith) ok table in
      let body = bodies_written 0 n n (omega arith) ok in
      let ends = m.ends in
      let done : drop (due bytes n) bytes ≡ [] = drop_all (due bytes n) bytes (omega arith) in
      let rest : drop (4 + 8 * n) bytes ≡ flat_map run_bytes runs_of = body ∙ ap (λ xs. flat_map run_bytes runs_of ++ xs) done ∙ append-nil (flat_map run_bytes runs_of) in
      let whole : bytes ≡ field n ++ (pair_bytes (4 + 8 * n) runs_of ++ flat_map run_bytes runs_of) =
      first ∙ ap (λ xs. field n ++ xs) (pairs ∙ ap (λ xs. pair_bytes (4 + 8 * n) runs_of ++ xs) rest) in
      let stated = entries_stated 0 n in
      record {
        lawful = record {
          some = omega (arith, m.some, count);
          most = omega (arith, m.most, count);
          few = subst (λ es. length es ≤ 65536) stated m.few;
          arcs = subst (λ es. AllByRecursion (EntryOk named (length runs_of)) es) stated (subst (λ k. AllByRecursion (EntryOk named k) (entries bytes)) (sym count) (entries_law named n (entries bytes) m.arcs words_fit));
        };
        layout = whole ∙ ap (λ k. field k ++ (pair_bytes (4 + 8 * k) runs_of ++ flat_map run_bytes runs_of)) (sym count);
      }
