-- A closing in the first cells of a longer table.
use Rattle.std.proofs.Common.{◌≡◌, ℕ, ◌*◌, ◌≤◌, min, Bool, true, false, cond, ◌||◌, List, ◌++◌, length, take, drop, is_ok, Ok, Err, Result, sym, refl, ap, ◌∙◌, ap₂, true≢false, arith, lt-ltb}
use native.Mathlib.Decide.{dec_le}
use Rattle.std.proofs.lemmas.List.{append_assoc, length-take-le, take-append-drop, drop-append-le}
use Rattle.labels.specs.Algebra.{Ops}
use Rattle.catalogue.specs.Meanings.{Meaning}
use Rattle.tables.specs.Closings.{short, labels, closing_leaves, rounds_answer, elimination_answer}

-- the first so many cells, or all of them
pub length_part : {A : Type 0} (xs : List A) (k cells : ℕ) → k ≡ min cells (length xs) → length (take k xs) ≡ min cells (length xs)
length_part xs k cells e = length-take-le k xs (omega (arith, e)) ∙ e

-- what is taken is not too short
long_enough : {A : Type 0} (n k : ℕ) (refused : Bool) (x : A) (answer : Result A ℕ) → (short n k ≡ true → refused ≡ true)
    → answer ≡ cond refused (Err 13) (Ok x) → is_ok answer ≡ true → n * n ≤ k
long_enough n k refused x answer shorter is ok = go (dec_le (n * n) k) refused shorter is
  where
    go : Dec (n * n ≤ k) → (s : Bool) → (short n k ≡ true → s ≡ true) → answer ≡ cond s (Err 13) (Ok x) → n * n ≤ k
    go (yes le) s f e = le
    go (no gt) true f e = absurd (true≢false (sym ok ∙ ap is_ok e))
    go (no gt) false f e = absurd (true≢false (sym (f (lt-ltb k (n * n) (omega arith)))))

-- a list is as it was where its first so many items are
pub part_kept : {A : Type 0} (k : ℕ) (old part : List A) → part ≡ take k old → part ++ drop k old ≡ old
part_kept k old part is = ap (λ p. p ++ drop k old) is ∙ take-append-drop k old

-- what is written to the first so many items of a part is written to the whole
pub part_written : {A : Type 0} (taken : Bool) (front : List A) (n k : ℕ) (old part : List A) → k ≤ length old → (taken ≡ true → n ≤ k)
    → part ≡ cond taken (front ++ drop n (take k old)) (take k old) → part ++ drop k old ≡ cond taken (front ++ drop n old) old
part_written true front n k old part within fits left =
    ap (λ p. p ++ drop k old) left ∙ append_assoc front (drop n (take k old)) (drop k old) ∙ ap (λ rest. front ++ rest)
    (sym (drop-append-le n (take k old) (drop k old) (omega (arith, length-take-le k old within, fits refl)))
    ∙ ap (drop n) (take-append-drop k old))
part_written false front n k old part within fits left = part_kept k old part left

module _ {K : Type 0} (o : Ops K) (m : Meaning K) where
  pub part_left : {A : Type 0} (answer : Result A ℕ) (k : ℕ) (old part : List K) → k ≤ length old → (is_ok answer ≡ true → m.n * m.n ≤ k)
      → part ≡ closing_leaves o m answer (take k old) → part ++ drop k old ≡ closing_leaves o m answer old
  part_left answer k old part = part_written (is_ok answer) (labels o m) (m.n * m.n) k old part

  pub elimination_part : (answer : Result (Unit {0}) ℕ) (k cells : ℕ) (old part : List K) → k ≡ min cells (length old)
      → answer ≡ elimination_answer o m (length (take k old)) → part ≡ closing_leaves o m answer (take k old)
      → (answer ≡ elimination_answer o m (min cells (length old))) × (part ++ drop k old ≡ closing_leaves o m answer old)
  elimination_part answer k cells old part e is left = (
    is ∙ ap (elimination_answer o m) (length_part old k cells e),
    part_left answer k old part (omega (arith, e))
        (λ ok. omega (arith, length_part old k cells e, e, long_enough m.n (length (take k old)) (short m.n (length (take k old))) tt answer (λ s. s) is ok)) left,
  )

  pub rounds_part : (answer : Result ℕ ℕ) (k s t cells : ℕ) (old changed found part : List K) → k ≡ min cells (length old) → s ≡ min cells (length changed) → t ≡ min cells (length found)
      → answer ≡ rounds_answer o m (length (take k old)) (length (take s changed)) (length (take t found)) → part ≡ closing_leaves o m answer (take k old)
      → (answer ≡ rounds_answer o m (min cells (length old)) (min cells (length changed)) (min cells (length found))) × (part ++ drop k old ≡ closing_leaves o m answer old)
  rounds_part answer k s t cells old changed found part e e' e'' is left = (
    is ∙ ap (λ x. rounds_answer o m x (length (take s changed)) (length (take t found))) (length_part old k cells e)
        ∙ ap₂ (rounds_answer o m (min cells (length old))) (length_part changed s cells e') (length_part found t cells e''),
    part_left answer k old part (omega (arith, e))
        (λ ok. omega (arith, length_part old k cells e, e, long_enough m.n (length (take k old)) _ _ answer (λ b. ap (λ x. x || (short m.n (length (take s changed)) || short m.n (length (take t found)))) b) is ok)) left,
  )
