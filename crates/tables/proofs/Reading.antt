-- Reading a row, and a pair's label from the row of a closed table.
use Rattle.std.proofs.Common.{◌≡◌, ℕ, ◌+◌, ◌*◌, ◌<◌, ◌≤◌, Bool, true, false, cond, not, ◌&&◌, ◌||◌, leb, List, length, get_or, drop, is_ok, Ok, Err, Result, sym, refl, ap, ◌∙◌, subst, ap₂, true≢false, arith, length-append, ltb-false, le-ltb, le-leb, leb-false}
use Rattle.std.proofs.lemmas.Bool.{lt-leb, or_parts}
use Rattle.std.specs.List.{between}
use Rattle.std.proofs.lemmas.List.Edits.{length-between, get_or-between}
use Rattle.std.proofs.lemmas.List.{get_or_append_left}
use Rattle.std.proofs.lemmas.Nat.{mul-add-lt}
use Rattle.labels.specs.Algebra.{Ops}
use Rattle.sheets.specs.Sheets.{count_test}
use Rattle.paths.specs.Chains.{L}
use Rattle.paths.proofs.Written.{get_or_table, length_table}
use Rattle.catalogue.specs.Refusals.{on_ok}
use Rattle.catalogue.specs.Meanings.{Meaning, Sound, in_force}
use Rattle.tables.specs.Closings.{short, labels, closed, elimination_answer, label_answer}
use Rattle.tables.specs.Rows.{row_answer}
use Rattle.tables.proofs.Areas.{row_within}

module _ {A : Type 0} (cells : List A) (n p : ℕ) where
  -- what a row answers where no check fails
  pub row_is : count_test n ≡ true → n * n ≤ length cells → p < n → row_answer cells n p ≡ Ok (between (p * n) (p * n + n) cells)
  row_is counted long inside =
      ap (λ b. cond {A = Result (List A) ℕ} (not b) (Err 1) (cond (short n (length cells)) (Err 13) (cond (leb n p) (Err 6) (Ok (between (p * n) (p * n + n) cells))))) counted
      ∙ ap₂ (λ b d. cond {A = Result (List A) ℕ} b (Err 13) (cond d (Err 6) (Ok (between (p * n) (p * n + n) cells)))) (le-ltb (length cells) (n * n) long) (lt-leb n p inside)

  -- a row has n cells
  pub row_length : (row : List A) → Ok row ≡ row_answer cells n p → length row ≡ n
  row_length row = go (count_test n) (short n (length cells)) refl (leb n p) refl
    where
      sized : Result (List A) ℕ → Type 0
      sized (Ok xs) = length xs ≡ n
      sized (Err k) = Unit {0}

      go : (a b : Bool) → short n (length cells) ≡ b → (d : Bool) → leb n p ≡ d
          → Ok row ≡ cond {A = Result (List A) ℕ} (not a) (Err 1) (cond b (Err 13) (cond d (Err 6) (Ok (between (p * n) (p * n + n) cells)))) → length row ≡ n
      go true false long false inside e =
          subst sized (sym e)
          (length-between cells (p * n) (p * n + n) (omega (arith, row_within n p (leb-false n p inside), ltb-false (length cells) (n * n) long)) ∙ omega arith)
      go true false long true inside e = absurd (true≢false (ap is_ok e))
      go true true long d inside e = absurd (true≢false (ap is_ok e))
      go false b long d inside e = absurd (true≢false (ap is_ok e))

module _ {K : Type 0} (o : Ops K) (m : Meaning K) (sound : Sound o m) where
  counted : count_test m.n ≡ true
  counted = ap₂ ◌&&◌ (le-leb 1 m.n sound.some) (le-leb m.n 1024 sound.most)

  -- the cell of a pair in a closed table is its label
  read_label : (old : List K) (f t : ℕ) → f < m.n → t < m.n
      → on_ok (λ cells. get_or cells t o.none) (row_answer (closed o m old) m.n f) ≡ Ok (L o (in_force m) m.n f t)
  read_label old f t hf ht =
      let n = m.n in
      let T = L o (in_force m) n in
      let size : length (labels o m) ≡ n * n = length_table n T in
      let at : f * n + t < n * n = omega (arith, mul-add-lt f n t n hf ht) in
      ap (on_ok (λ cells. get_or cells t o.none)) (row_is (closed o m old) n f counted (omega (arith, size, length-append (labels o m) (drop (n * n) old))) hf)
      ∙ ap Ok (get_or-between (closed o m old) (f * n) (f * n + n) t o.none (omega arith)
      ∙ get_or_append_left (labels o m) (drop (n * n) old) o.none (f * n + t) (omega (arith, size))
      ∙ get_or_table n T f t o.none hf ht)

  fits : (cells : ℕ) → Ok tt ≡ elimination_answer o m cells → short m.n cells ≡ false
  fits cells = go (short m.n cells)
    where
      go : (b : Bool) → Ok tt ≡ cond {A = Result (Unit {0}) ℕ} b (Err 13) (Ok tt) → b ≡ false
      go true e = absurd (true≢false (ap is_ok e))
      go false e = refl

  module _ (n f t : ℕ) (is : n ≡ m.n) (inside : (leb n f || leb n t) ≡ false)
      (old new : List K) (taken : Ok tt ≡ elimination_answer o m (length old)) (left : new ≡ closed o m old) where
    below : (p : ℕ) → leb n p ≡ false → p < m.n
    below p e = subst (λ k. p < k) is (leb-false n p e)

    from_in : f < m.n
    from_in = below f (or_parts (leb n f) (leb n t) inside).0

    to_in : t < m.n
    to_in = below t (or_parts (leb n f) (leb n t) inside).1

    read : on_ok (λ cells. get_or cells t o.none) (row_answer new n f) ≡ Ok (L o (in_force m) m.n f t)
    read =
        ap₂ (λ cells k. on_ok (λ row. get_or row t o.none) (row_answer cells k f)) left is
        ∙ read_label old f t from_in to_in

    pub label_read : on_ok (λ cells. get_or cells t o.none) (row_answer new n f) ≡ label_answer o m (length old) f t
    label_read =
        read
        ∙ sym (ap₂ (λ x y. cond {A = Result K ℕ} (x || y) (Err 6) (cond (short m.n (length old)) (Err 13) (Ok (L o (in_force m) m.n f t))))
        (lt-leb m.n f from_in) (lt-leb m.n t to_in)
        ∙ ap (λ x. cond {A = Result K ℕ} x (Err 13) (Ok (L o (in_force m) m.n f t))) (fits (length old) taken))
