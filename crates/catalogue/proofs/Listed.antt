-- Lists of packages.
use Rattle.std.proofs.Common.{◌≡◌, ℕ, ◌+◌, Bool, true, false, cond, not, ◌&&◌, ◌||◌, eqb, ltb, List, [], ◌∷◌, ◌++◌, length, filter, sym, refl, ap, ◌∙◌, ⊎_elim, arith}
use Rattle.std.proofs.Math.Bool.{or_assoc, or-false}
use Rattle.std.proofs.lemmas.Bool.{lt-ltb, eqb-true, or_from, or_parts, and_parts, and_from, and_right, not-true, cases_Bool, both_ways}
use Rattle.std.proofs.lemmas.List.Filters.{length-filter_both}
use Rattle.std.proofs.lemmas.Bool.Decides.{nat_tests}
use Rattle.std.specs.List.{list_any}
use Rattle.catalogue.specs.Lists.{within, without, once}

pub within_push : (xs : List ℕ) (y p : ℕ) → within (xs ++ (y ∷ [])) p ≡ (within xs p || eqb p y)
within_push [] y p = or-false (eqb p y)
within_push (x ∷ xs) y p = ap (λ b. eqb p x || b) (within_push xs y p) ∙ sym (or_assoc (eqb p x) (within xs p) (eqb p y))

count_within : (xs : List ℕ) (p : ℕ) → ltb 0 (length (filter (λ q. eqb p q) xs)) ≡ within xs p
count_within [] p = refl
count_within (x ∷ xs) p =
    elim (eqb p x) as (λ b. ltb 0 (length (cond b (x ∷ filter (λ q. eqb p q) xs) (filter (λ q. eqb p q) xs))) ≡ (b || within xs p))
    [ true ↦ lt-ltb _ _ (omega arith) | false ↦ count_within xs p ]

pub shorter_without : (p : ℕ) (xs : List ℕ) → ltb (length (without p xs)) (length xs) ≡ within xs p
shorter_without p xs =
    let both = length-filter_both (λ q. eqb p q) (λ q. not (eqb p q)) (λ _. refl) xs in
    let same : ltb (length (without p xs)) (length xs) ≡ ltb 0 (length (filter (λ q. eqb p q) xs)) = grind (arith, nat_tests) in
    same ∙ count_within xs p

eqb_sym : (a b : ℕ) → eqb a b ≡ eqb b a
eqb_sym a b = grind (arith, nat_tests)

-- whether the list has p, as `contains` answers
pub any_within : (xs : List ℕ) (p : ℕ) → list_any (λ q. eqb q p) xs ≡ within xs p
any_within [] p = refl
any_within (x ∷ xs) p = ap (λ b. b || list_any (λ q. eqb q p) xs) (eqb_sym x p) ∙ ap (λ b. eqb p x || b) (any_within xs p)

pub or_push : (w e h : Bool) → ((w || e) || h) ≡ (e || (w || h))
or_push true true h = refl
or_push true false h = refl
or_push false true h = refl
or_push false false h = refl

pub not_or : (b w : Bool) → (not b && w) ≡ (not b && (b || w))
not_or true w = refl
not_or false w = refl

-- a and b are not both
pub shift_not : (a b w : Bool) → (a ≡ true → b ≡ false) → (b || (not a && w)) ≡ (not a && (b || w))
shift_not true b w h = rw (h refl)
shift_not false b w h = refl

-- a and h are not both
pub not_out : (a w h : Bool) → (a ≡ true → h ≡ false) → ((not a && w) || h) ≡ (not a && (w || h))
not_out true w h z = z refl
not_out false w h z = refl

-- the list less p
pub without_none : (p : ℕ) (xs : List ℕ) → within xs p ≡ false → without p xs ≡ xs
without_none p [] h = refl
without_none p (x ∷ xs) h =
    let parts = or_parts (eqb p x) (within xs p) h in
    rw parts.0 (ap (λ r. x ∷ r) (without_none p xs parts.1))

pub within_without : (p : ℕ) (xs : List ℕ) (q : ℕ) → within (without p xs) q ≡ (not (eqb q p) && within xs q)
within_without p [] q = grind (arith, nat_tests)
within_without p (x ∷ xs) q =
    ⊎_elim
    (λ e. let same : x ≡ p = sym (eqb-true p x e) in
    rw e (within_without p xs q ∙ not_or (eqb q p) (within xs q) ∙ ap (λ z. not (eqb q p) && (eqb q z || within xs q)) (sym same)))
    (λ e. rw e (ap (λ r. eqb q x || r) (within_without p xs q) ∙ shift_not (eqb q p) (eqb q x) (within xs q) (λ z. let same : q ≡ p = eqb-true q p z in ap (λ y. eqb y x) same ∙ e)))
    (cases_Bool (eqb p x))

pub once_without : (p : ℕ) (xs : List ℕ) → once xs ≡ true → once (without p xs) ≡ true
once_without p [] h = refl
once_without p (x ∷ xs) h =
    let parts = and_parts (not (within xs x)) (once xs) h in
    ⊎_elim
    (λ e. rw e (once_without p xs parts.1))
    (λ e. rw e (and_from (not (within (without p xs) x)) (once (without p xs))
    (ap not (within_without p xs x ∙ and_right (not (eqb x p)) (within xs x) (not-true (within xs x) parts.0)))
    (once_without p xs parts.1)))
    (cases_Bool (eqb p x))

pub once_push : (xs : List ℕ) (p : ℕ) → once xs ≡ true → within xs p ≡ false → once (xs ++ (p ∷ [])) ≡ true
once_push [] p h k = refl
once_push (x ∷ xs) p h k =
    let parts = and_parts (not (within xs x)) (once xs) h in
    let out = or_parts (eqb p x) (within xs p) k in
    and_from (not (within (xs ++ (p ∷ [])) x)) (once (xs ++ (p ∷ [])))
    (ap not (within_push xs p x ∙ or_from (within xs x) (eqb x p) (not-true (within xs x) parts.0) (eqb_sym x p ∙ out.0)))
    (once_push xs p parts.1 out.1)

pub length_without : (p : ℕ) (xs : List ℕ) → once xs ≡ true → within xs p ≡ true → length (without p xs) + 1 ≡ length xs
length_without p [] h k = absurd (both_ways false refl k)
length_without p (x ∷ xs) h k =
    let parts = and_parts (not (within xs x)) (once xs) h in
    ⊎_elim
    (λ e. let same : p ≡ x = eqb-true p x e in
    let gone : without p xs ≡ xs = without_none p xs (ap (within xs) same ∙ not-true (within xs x) parts.0) in
    rw (e, gone) (omega arith))
    (λ e. let there : within xs p ≡ true = (rw e at k) in
    rw e (omega (arith, length_without p xs parts.1 there)))
    (cases_Bool (eqb p x))
