-- A ledger's arcs after a withdrawal.
use Rattle.std.proofs.Common.{◌≡◌, ℕ, ◌+◌, ◌-◌, ◌≤◌, Bool, true, false, leb, cond, not, List, [], ◌∷◌, length, take, is_ok, Ok, Err, filter, sym, refl, ap, ◌∙◌, subst, arith, length-take}
use Rattle.std.proofs.lemmas.List.Filters.{FiltersInPlace, length-filter_both}
use Rattle.std.proofs.lemmas.Bool.{ne_eqb, eq-eqb}
use Rattle.labels.specs.Algebra.{Ops}
use Rattle.paths.specs.declared.arc.Arc.{Arc}
use Rattle.paths.specs.Arcs.{between, elsewhere}
use Rattle.catalogue.specs.Meanings.{Meaning, Sound}
use Rattle.catalogue.specs.Calls.{matching, withdraw_answer, withdrawn, withdraw_leaves}
use Rattle.catalogue.specs.Ledgers.{ledger, LedgerOk}
use Rattle.catalogue.proofs.Accepting.{withdrawn_sound}

none_taken : {X : Type 0} (p : X → Bool) (xs : List X) → length (filter p xs) ≡ 0 → filter (λ x. not (p x)) xs ≡ xs
none_taken p [] e = refl
none_taken p (x ∷ xs) e =
    (elim (p x) as (λ b. length (cond b (x ∷ filter p xs) (filter p xs)) ≡ 0 → cond (not b) (x ∷ filter (λ y. not (p y)) xs) (filter (λ y. not (p y)) xs) ≡ x ∷ xs) [
      | true ↦ λ h. absurd (omega arith)
      | false ↦ λ h. ap (λ r. x ∷ r) (none_taken p xs h)
    ]) e

module _ {L : Type 0} (m : Meaning L) (f t : ℕ) (open' : m.sealed ≡ false) (fn : leb m.n f ≡ false) (tn : leb m.n t ≡ false) where
  withdraw_refuses : matching m f t ≡ 0 → withdraw_answer m f t ≡ Err 9
  withdraw_refuses none =
      let e4 = eq-eqb (matching m f t) 0 none in
      simp (open', fn, tn, e4)

  withdraw_accepts : (matching m f t ≡ 0 → ⊥) → withdraw_answer m f t ≡ Ok (matching m f t)
  withdraw_accepts some =
      let e4 = ne_eqb (matching m f t) 0 some in
      simp (open', fn, tn, e4)

module _ {L : Type 0} (f t : ℕ) (xs ys : List (Arc L)) where
  module _ (next i len : ℕ) (inv : FiltersInPlace (elsewhere f t) xs ys next i) (end : i ≡ len) where
    pub moved_front : take (len - (len - next)) ys ≡ filter (elsewhere f t) (take len xs)
    moved_front =
        let k = inv.behind in
        let e : len - (len - next) ≡ next = omega arith in
        ap (λ j. take j ys) e ∙ inv.front ∙ ap (λ j. filter (elsewhere f t) (take j xs)) end

    pub moved_count : len - next ≡ length (filter (between f t) (take len xs))
    moved_count =
        let a = length-take next ys in
        let b = ap length (inv.front ∙ ap (λ j. filter (elsewhere f t) (take j xs)) end) in
        let both = length-filter_both (between f t) (elsewhere f t) (λ _. refl) (take len xs) in
        let d = length-take len xs in
        let k = inv.behind in
        let w = inv.within in
        let o = inv.long in
        omega arith

  -- r arcs were taken of the first len
  module _ (o : Ops L) (n len r : ℕ) (ok : LedgerOk o n len xs) (fn : leb n f ≡ false) (tn : leb n t ≡ false) (few : r ≤ len) (front : take (len - r) ys ≡ filter (elsewhere f t) (take len xs)) (count : r ≡ length (filter (between f t) (take len xs))) (long : length ys ≡ length xs) where
    shrunk : ledger n (len - r) ys ≡ withdrawn (ledger n len xs) f t
    shrunk =
        let fill = ok.filled in
        let places : length ys - (len - r) ≡ (length xs - len) + matching (ledger n len xs) f t = omega arith in
        simp (front, places)

    pub shrunk_ok : LedgerOk o n (len - r) ys
    shrunk_ok = record { filled = omega (arith, ok.filled); sound = subst (Sound o) (sym shrunk) (withdrawn_sound o (ledger n len xs) f t ok.sound) }

    module _ (none : r ≡ 0) where
      same : len - r ≡ len
      same = omega arith

      pub same_ok : LedgerOk o n len ys
      same_ok = subst (λ j. LedgerOk o n j ys) same shrunk_ok

      pub refused : withdraw_answer (ledger n len xs) f t ≡ Err 9
      refused = withdraw_refuses (ledger n len xs) f t refl fn tn (sym count ∙ none)

      pub unchanged : ledger n len ys ≡ withdraw_leaves (ledger n len xs) f t
      unchanged =
          let stock : take len ys ≡ take len xs = sym (ap (λ j. take j ys) same) ∙ front ∙ none_taken (between f t) (take len xs) (sym count ∙ none) in
          let same' : ledger n len ys ≡ ledger n len xs = simp (stock, long) in
          same' ∙ sym (ap (λ a. cond (is_ok a) (withdrawn (ledger n len xs) f t) (ledger n len xs)) refused)

    module _ (some : r ≡ 0 → ⊥) where
      accepts : withdraw_answer (ledger n len xs) f t ≡ Ok (matching (ledger n len xs) f t)
      accepts = withdraw_accepts (ledger n len xs) f t refl fn tn (λ e. some (count ∙ e))

      pub answered : withdraw_answer (ledger n len xs) f t ≡ Ok r
      answered = accepts ∙ ap (λ k. Ok k) (sym count)

      pub taken : ledger n (len - r) ys ≡ withdraw_leaves (ledger n len xs) f t
      taken = shrunk ∙ sym (ap (λ a. cond (is_ok a) (withdrawn (ledger n len xs) f t) (ledger n len xs)) accepts)
