-- Lawful runs are known from their sheet.
use Rattle.std.proofs.Common.{◌≡◌, ℕ, zero, suc, ◌+◌, ◌<◌, ◌≤◌, Bool, cond, eqb, List, [], ◌∷◌, ◌++◌, map, length, filter, Option, sym, refl, ap, ◌∙◌, ap₂, arith}
use Rattle.std.specs.List.{range_with_len}
use Rattle.std.proofs.lemmas.List.Elements.{filter-append}
use Rattle.std.proofs.lemmas.List.{append-nil}
use Rattle.std.proofs.lemmas.Bool.{eq-eqb, ne_eqb}
use Rattle.sheets.specs.Sheets.{Entry, entry}
use Rattle.sheets.specs.Layout.{Mark, stated_from, States}
use Rattle.sheets.proofs.Accepted.{counts, states}

abbrev of : ℕ → Mark → Entry
of p m = entry p m.to m.word

abbrev from : ℕ → Entry → Bool
from q e = eqb e.from q

-- the run of a package, of the arcs that runs state
abbrev mark_of : Entry → Mark
mark_of e = record { to = e.to; word = e.word }

abbrev marks_from : ℕ → List Entry → List Mark
marks_from p es = map mark_of (filter (from p) es)

kept_all : (p : ℕ) (r : List Mark) → filter (from p) (map (of p) r) ≡ map (of p) r
kept_all p [] = refl
kept_all p (m ∷ r) =
    ap (λ b. cond b (of p m ∷ filter (from p) (map (of p) r)) (filter (from p) (map (of p) r))) (eq-eqb p p refl)
    ∙ ap (λ es. of p m ∷ es) (kept_all p r)

kept_none : (p q : ℕ) (r : List Mark) → (p ≡ q → ⊥) → filter (from q) (map (of p) r) ≡ []
kept_none p q [] h = refl
kept_none p q (m ∷ r) h =
    ap (λ b. cond b (of p m ∷ filter (from q) (map (of p) r)) (filter (from q) (map (of p) r))) (ne_eqb p q h)
    ∙ kept_none p q r h

kept_later : (p q : ℕ) (rs : List (List Mark)) → q < p → filter (from q) (stated_from p rs) ≡ []
kept_later p q [] h = refl
kept_later p q (r ∷ rs) h =
    filter-append (from q) (map (of p) r) (stated_from (p + 1) rs)
    ∙ ap₂ ◌++◌ (kept_none p q r (λ e. omega arith)) (kept_later (p + 1) q rs (omega arith))

marks_again : (p : ℕ) (r : List Mark) → map mark_of (map (of p) r) ≡ r
marks_again p [] = refl
marks_again p (m ∷ r) = ap (λ xs. m ∷ xs) (marks_again p r)

counted_same : {X : Type 0} (f g : ℕ → X) (a n : ℕ) → ((q : ℕ) → a ≤ q → f q ≡ g q) → map f (range_with_len a n) ≡ map g (range_with_len a n)
counted_same f g a zero h = refl
counted_same f g a (suc n) h = ap₂ (λ x xs. x ∷ xs) (h a (omega arith)) (counted_same f g (a + 1) n (λ q l. h q (omega arith)))

pub runs_again : (p : ℕ) (rs : List (List Mark)) → map (λ q. marks_from q (stated_from p rs)) (range_with_len p (length rs)) ≡ rs
runs_again p [] = refl
runs_again p (r ∷ rs) =
    let here : marks_from p (map (of p) r ++ stated_from (p + 1) rs) ≡ r =
    ap (map mark_of) (filter-append (from p) (map (of p) r) (stated_from (p + 1) rs) ∙ ap₂ ◌++◌ (kept_all p r) (kept_later (p + 1) p rs (omega arith)) ∙ append-nil (map (of p) r))
    ∙ marks_again p r in
    let later : (q : ℕ) → p + 1 ≤ q → marks_from q (map (of p) r ++ stated_from (p + 1) rs) ≡ marks_from q (stated_from (p + 1) rs) =
    λ q l. ap (map mark_of) (filter-append (from q) (map (of p) r) (stated_from (p + 1) rs) ∙ ap (λ es. es ++ filter (from q) (stated_from (p + 1) rs)) (kept_none p q r (λ e. omega arith))) in
    ap₂ (λ x xs. x ∷ xs) here (counted_same _ _ (p + 1) (length rs) later ∙ runs_again (p + 1) rs)

-- two lawful lists of runs with the same sheet are equal
pub unique : {L : Type 0} (named : ℕ → Option L) (bytes : List ℕ) (xs ys : List (List Mark)) → States named bytes xs → States named bytes ys → xs ≡ ys
unique named bytes xs ys sx sy =
    let arcs : stated_from 0 xs ≡ stated_from 0 ys = sym (states named xs sx.lawful bytes sx.layout) ∙ states named ys sy.lawful bytes sy.layout in
    let count : length xs ≡ length ys = sym (counts named xs sx.lawful bytes sx.layout) ∙ counts named ys sy.lawful bytes sy.layout in
    sym (runs_again 0 xs) ∙ ap₂ (λ n es. map (λ q. marks_from q es) (range_with_len 0 n)) count arcs ∙ runs_again 0 ys
