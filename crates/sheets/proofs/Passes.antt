-- A sheet that meets its checks.
use Rattle.std.proofs.Common.{◌≡◌, ℕ, zero, suc, ◌+◌, ◌*◌, ◌<◌, ◌≤◌, false, not, ◌&&◌, eqb, ltb, leb, List, [], ◌∷◌, map, length, is_some, Some, None, Option, sym, ap, ◌∙◌, ⊎_elim, arith}
use Rattle.std.specs.List.{slice_get}
use Rattle.std.proofs.lemmas.Bool.{cases_lt, and_parts, leb-true, eqb-true, false≢true}
use Rattle.sheets.specs.Sheets.{word_at, offset_of, size_of, count_of, due, entry, entries, first_unmet, pair_checks, entry_check, sheet_check}
use Rattle.sheets.proofs.Checks.{met_cons, met_append, head_met}
use Rattle.sheets.proofs.Pairs.{pairs_ok, due_next}
use Rattle.sheets.proofs.Stock.{runs_length, stated_at}

module _ {L : Type 0} (named : ℕ → Option L) (bytes : List ℕ) where
  pub record Met : Type 0 where
    pub some : 1 ≤ count_of bytes
    pub most : count_of bytes ≤ 1024
    pub pairs : first_unmet (pair_checks bytes) ≡ 0
    pub ends : due bytes (count_of bytes) ≡ length bytes
    pub few : length (entries bytes) ≤ 65536
    pub table : 4 + 8 * count_of bytes ≤ length bytes
    pub arcs : first_unmet (map (entry_check named (count_of bytes)) (entries bytes)) ≡ 0

  pub all_met : sheet_check named bytes ≡ 0 → Met
  unfolding sheet_check
  all_met e =
      let n = count_of bytes in
      let a = met_cons 1 (leb 4 (length bytes)) _ e in
      let b = met_cons 0 (leb 1 n && leb n 1024) _ a.1 in
      let c = met_cons 1 (leb (4 + 8 * n) (length bytes)) _ b.1 in
      let d = met_append (pair_checks bytes) _ c.1 in
      let f = met_cons 1 (eqb (due bytes n) (length bytes) && leb (length (entries bytes)) 65536) _ d.1 in
      let b' = and_parts (leb 1 n) (leb n 1024) b.0 in
      let f' = and_parts (eqb (due bytes n) (length bytes)) (leb (length (entries bytes)) 65536) f.0 in
      record {
        some = leb-true 1 n b'.0;
        most = leb-true n 1024 b'.1;
        pairs = d.0;
        ends = eqb-true (due bytes n) (length bytes) f'.0;
        few = leb-true (length (entries bytes)) 65536 f'.1;
        table = leb-true (4 + 8 * n) (length bytes) c.0;
        arcs = f.1;
      }

  pub entries_length : first_unmet (pair_checks bytes) ≡ 0 → 4 + 8 * count_of bytes + 8 * length (entries bytes) ≡ due bytes (count_of bytes)
  entries_length e = runs_length bytes 0 (count_of bytes) (count_of bytes) (omega arith) (pairs_ok bytes e)

-- what holds of all entries holds of the one at a place
met_nth : {X : Type 0} (chk : X → ℕ) (xs : List X) (k : ℕ) (x : X) → first_unmet (map chk xs) ≡ 0 → slice_get xs k ≡ Some x → chk x ≡ 0
met_nth chk [] k x h e = cc
met_nth chk (y ∷ xs) zero x h e = let same : y ≡ x = cc in ap chk (sym same) ∙ (head_met (chk y) (map chk xs) h).0
met_nth chk (y ∷ xs) (suc k) x h e = met_nth chk xs k x (head_met (chk y) (map chk xs) h).1 e

module _ {L : Type 0} (named : ℕ → Option L) (bytes : List ℕ) (met : sheet_check named bytes ≡ 0) where
  -- the place of an arc, and its source
  module _ (k q at : ℕ) (inside : k < length (entries bytes)) (here : at ≡ 4 + 8 * count_of bytes + 8 * k) (q<n : q < count_of bytes) (begun : offset_of bytes q ≤ at) (last : q + 1 < count_of bytes → at < offset_of bytes (q + 1)) where
    pub entry_found : slice_get (entries bytes) k ≡ Some (entry q (word_at bytes at) (word_at bytes (at + 4)))
    entry_found =
        let m = all_met named bytes met in
        let ok = pairs_ok bytes m.pairs in
        let next = due_next bytes q in
        let total = entries_length named bytes m.pairs in
        let ends = m.ends in
        let within : at < offset_of bytes q + size_of bytes q =
        ⊎_elim
        (λ less. let placed = (ok (q + 1) less).placed in let l = last less in omega arith)
        (λ more.
        let e : q + 1 ≡ count_of bytes = omega arith in
        let d : due bytes (q + 1) ≡ due bytes (count_of bytes) = ap (due bytes) e in
        omega arith)
        (cases_lt (q + 1) (count_of bytes)) in
        stated_at bytes 0 (count_of bytes) (count_of bytes) k q (omega arith) ok (omega arith) q<n (omega arith) (omega arith)
        ∙ ap (λ b. Some (entry q (word_at bytes b) (word_at bytes (b + 4)))) (sym here)

    pub unnamed_not : (w : ℕ) → w ≡ word_at bytes (at + 4) → None ≡ named w → ⊥
    unnamed_not w we ne =
        let m = all_met named bytes met in
        let c = met_nth (entry_check named (count_of bytes)) (entries bytes) k _ m.arcs entry_found in
        let c1 = met_cons 5 (ltb q (count_of bytes) && ltb (word_at bytes at) (count_of bytes)) _ c in
        let c2 = met_cons 6 (not (eqb q (word_at bytes at))) _ c1.1 in
        let c3 = met_cons 3 (is_some (named (word_at bytes (at + 4)))) _ c2.1 in
        let e : is_some (named (word_at bytes (at + 4))) ≡ false = ap (λ x. is_some (named x)) (sym we) ∙ ap is_some (sym ne) in
        false≢true (sym e ∙ c3.0)
