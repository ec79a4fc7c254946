-- Every meaning is sound.
use Rattle.std.proofs.Common.{◌≡◌, ℕ, true, not, ◌&&◌, eqb, ltb, List, [], ◌∷◌, map, ⊎_elim, is_some, Some, None, Option, unwrap_or, sym, refl, ap, ◌∙◌, arith}
use lib.ListN.{length-map}
use Rattle.std.specs.List.{AllByRecursion}
use Rattle.std.proofs.lemmas.Bool.{or_cases, and_parts, eqb-false, ltb-true, not-true, false≢true}
use Rattle.labels.specs.Algebra.{Ops, Unnamed}
use Rattle.sheets.specs.Sheets.{count_of, Entry, entries, first_unmet, entry_check, sheet_check}
use Rattle.sheets.proofs.Checks.{met_cons, head_met}
use Rattle.sheets.proofs.Passes.{all_met}
use Rattle.catalogue.specs.Meanings.{Meaning, ArcOk, Sound}
use Rattle.catalogue.specs.SheetMeanings.{arc_of, sheet}
use Rattle.paths.specs.Arcs.{turn}
use Rattle.paths.specs.declared.arc.Arc.{Arc}
use Rattle.catalogue.specs.Lists.{within}
use Rattle.catalogue.specs.Holds.{OwnOk, held_over}
use Rattle.catalogue.specs.Turns.{turned}

module _ {L : Type 0} (o : Ops L) (named : ℕ → Option L) (unnamed : Unnamed o named) where
  entry_ok : (n : ℕ) (e : Entry) → entry_check named n e ≡ 0 → ArcOk o n (arc_of named o.none e)
  entry_ok n e h =
      let a = met_cons 5 (ltb e.from n && ltb e.to n) _ h in
      let b = met_cons 6 (not (eqb e.from e.to)) _ a.1 in
      let c = met_cons 3 (is_some (named e.word)) _ b.1 in
      let a' = and_parts (ltb e.from n) (ltb e.to n) a.0 in
      record {
        from_in = ltb-true e.from n a'.0;
        to_in = ltb-true e.to n a'.1;
        apart = eqb-false e.from e.to (not-true (eqb e.from e.to) b.0);
        labelled = go (named e.word) refl c.0;
      }
    where
      go : (x : Option L) → named e.word ≡ x → is_some x ≡ true → unwrap_or x o.none ≡ o.none → ⊥
      go None i h z = false≢true h
      go (Some x) i h z = unnamed e.word (i ∙ ap Some z)

  entries_ok : (n : ℕ) (es : List Entry) → first_unmet (map (entry_check named n) es) ≡ 0 → AllByRecursion (ArcOk o n) (map (arc_of named o.none) es)
  entries_ok n [] h = tt
  entries_ok n (e ∷ es) h =
      let b = head_met (entry_check named n e) (map (entry_check named n) es) h in
      (entry_ok n e b.0, entries_ok n es b.1)

  pub sheet_sound : (bytes : List ℕ) → sheet_check named bytes ≡ 0 → Sound o (sheet named o.none bytes)
  sheet_sound bytes e =
      let m = all_met named bytes e in
      record {
        some = m.some;
        most = m.most;
        arcs = entries_ok (count_of bytes) (entries bytes) m.arcs;
        room = simp length-map (omega (arith, m.few));
        inside = λ p h. absurd (false≢true h);
      }

module _ {L : Type 0} where
  all_turned : (o : Ops L) (n : ℕ) (xs : List (Arc L)) → AllByRecursion (ArcOk o n) xs → AllByRecursion (ArcOk o n) (map turn xs)
  all_turned o n [] h = tt
  all_turned o n (x ∷ xs) h = (record { from_in = h.0.to_in; to_in = h.0.from_in; apart = λ e. h.0.apart (sym e); labelled = h.0.labelled }, all_turned o n xs h.1)

  pub turned_sound : (o : Ops L) (m : Meaning L) → Sound o m → Sound o (turned m)
  turned_sound o m s = record {
    some = s.some;
    most = s.most;
    arcs = all_turned o m.n m.stock s.arcs;
    room = rw (length-map m.stock turn) s.room;
    inside = s.inside;
  }

-- a layer over a sound meaning is sound
pub held_sound : {L : Type 0} (o : Ops L) (m : Meaning L) (xs : List ℕ) → Sound o m → OwnOk m.held m.n xs → Sound o (held_over xs m)
held_sound o m xs s k = record {
  some = s.some;
  most = s.most;
  arcs = s.arcs;
  room = s.room;
  inside = λ p h. ⊎_elim (k.inside p) (s.inside p) (or_cases (within xs p) (m.held p) h);
}
