-- The arcs that the runs state: how many, and which stands at a place.
use Rattle.std.proofs.Common.{◌≡◌, ℕ, zero, suc, ◌+◌, ◌-◌, ◌*◌, ◌/◌, ◌%◌, ◌<◌, ◌≤◌, List, [], ◌∷◌, ◌++◌, map, length, Some, sym, refl, ap, ◌∙◌, ⊎_elim, add-zero, arith, length-append}
use Rattle.std.specs.List.{range_with_len, flat_map, slice_get}
use Rattle.std.proofs.lemmas.List.FromFn.{length-map-range_with_len}
use Rattle.std.proofs.lemmas.Bool.{cases_eq}
use Rattle.sheets.specs.Sheets.{word_at, offset_of, size_of, due, Entry, entry, entry_at, run}
use Rattle.sheets.proofs.Pairs.{PairOk, due_next}

module _ {X : Type 0} where
  pub nth_front : (xs ys : List X) (k : ℕ) → k < length xs → slice_get (xs ++ ys) k ≡ slice_get xs k
  nth_front [] ys k h = absurd (omega arith)
  nth_front (x ∷ xs) ys zero h = refl
  nth_front (x ∷ xs) ys (suc k) h = nth_front xs ys k (omega arith)

  pub nth_back : (xs ys : List X) (k : ℕ) → slice_get (xs ++ ys) (length xs + k) ≡ slice_get ys k
  nth_back [] ys k = let e : 0 + k ≡ k = omega arith in ap (slice_get ys) e
  nth_back (x ∷ xs) ys k = let e : suc (length xs) + k ≡ suc (length xs + k) = omega arith in ap (slice_get (x ∷ (xs ++ ys))) e ∙ nth_back xs ys k

  pub nth_counted : (f : ℕ → X) (a n k : ℕ) → k < n → slice_get (map f (range_with_len a n)) k ≡ Some (f (a + k))
  nth_counted f a zero k h = absurd (omega arith)
  nth_counted f a (suc n) zero h = ap (λ i. Some (f i)) (sym (add-zero a))
  nth_counted f a (suc n) (suc k) h = let e : a + 1 + k ≡ a + suc k = omega arith in nth_counted f (a + 1) n k (omega arith) ∙ ap (λ i. Some (f i)) e

pub nth_map : {X Y : Type 0} (f : X → Y) (xs : List X) (k : ℕ) (x : X) → slice_get xs k ≡ Some x → slice_get (map f xs) k ≡ Some (f x)
nth_map f [] k x e = cc
nth_map f (y ∷ xs) zero x e = let h : y ≡ x = cc in ap (λ z. Some (f z)) h
nth_map f (y ∷ xs) (suc k) x e = nth_map f xs k x e

module _ (bytes : List ℕ) where
  pub run_length : (p : ℕ) → length (run bytes p) ≡ size_of bytes p / 8
  run_length p = length-map-range_with_len (entry_at bytes p (offset_of bytes p)) 0 (size_of bytes p / 8)

  -- all pairs up to a package are in order
  abbrev Upto : ℕ → Type 0
  Upto n = (q : ℕ) → q < n → PairOk bytes q

  pub runs_length : (p m n : ℕ) → p + m ≡ n → Upto n → due bytes p + 8 * length (flat_map (run bytes) (range_with_len p m)) ≡ due bytes n
  runs_length p zero n e ok =
      let z : p ≡ n = omega arith in
      let d : due bytes p ≡ due bytes n = ap (due bytes) z in
      omega arith
  runs_length p (suc m) n e ok =
      let rest = runs_length (p + 1) m n (omega arith) ok in
      let long = length-append (run bytes p) (flat_map (run bytes) (range_with_len (p + 1) m)) in
      let here = run_length p in
      let next = due_next bytes p in
      let pair = ok p (omega arith) in
      let placed : offset_of bytes p ≡ due bytes p = pair.placed in
      let whole : size_of bytes p % 8 ≡ 0 = pair.whole in
      rw long (omega arith)

  -- runs begin in order
  pub in_order : (p d n : ℕ) → p + d < n → Upto n → due bytes p ≤ due bytes (p + d)
  in_order p zero n h ok = let e : due bytes (p + 0) ≡ due bytes p = ap (due bytes) (add-zero p) in omega arith
  in_order p (suc d) n h ok =
      let rest = in_order p d n (omega arith) ok in
      let s : p + suc d ≡ p + d + 1 = omega arith in
      let at : due bytes (p + suc d) ≡ due bytes (p + d + 1) = ap (due bytes) s in
      let next = due_next bytes (p + d) in
      let placed = (ok (p + d) (omega arith)).placed in
      omega arith

  pub offsets_rise : (i j n : ℕ) → i ≤ j → j < n → Upto n → offset_of bytes i ≤ offset_of bytes j
  offsets_rise i j n below inside ok =
      let e : i + (j - i) ≡ j = omega arith in
      let at : due bytes (i + (j - i)) ≡ due bytes j = ap (due bytes) e in
      let far = in_order i (j - i) n (omega arith) ok in
      let placed_i : offset_of bytes i ≡ due bytes i = (ok i (omega arith)).placed in
      let placed_j : offset_of bytes j ≡ due bytes j = (ok j inside).placed in
      omega arith

  -- the arc at a place, of the runs from p on: it is in the first run, or in a later one
  stated_here : (p k : ℕ) (rest : List Entry) → PairOk bytes p → due bytes p + 8 * k < offset_of bytes p + size_of bytes p → slice_get (run bytes p ++ rest) k ≡ Some (entry_at bytes p (due bytes p) k)
  stated_here p k rest here high =
      let placed : offset_of bytes p ≡ due bytes p = here.placed in
      let whole : size_of bytes p % 8 ≡ 0 = here.whole in
      let few : k < size_of bytes p / 8 = omega arith in
      let long = run_length p in
      let z : 0 + k ≡ k = omega arith in
      nth_front (run bytes p) rest k (omega arith)
      ∙ nth_counted (entry_at bytes p (offset_of bytes p)) 0 (size_of bytes p / 8) k few
      ∙ ap (λ i. Some (entry_at bytes p (offset_of bytes p) i)) z
      ∙ ap (λ b. Some (entry_at bytes p b k)) placed

  stated_later : (p k q : ℕ) (rest : List Entry) → PairOk bytes p → due bytes (p + 1) ≤ due bytes p + 8 * k
      → (due bytes (p + 1) + 8 * (k - size_of bytes p / 8) ≡ due bytes p + 8 * k → slice_get rest (k - size_of bytes p / 8) ≡ Some (entry_at bytes q (due bytes (p + 1)) (k - size_of bytes p / 8)))
      → slice_get (run bytes p ++ rest) k ≡ Some (entry_at bytes q (due bytes p) k)
  stated_later p k q rest here past ih =
      let placed : offset_of bytes p ≡ due bytes p = here.placed in
      let whole : size_of bytes p % 8 ≡ 0 = here.whole in
      let long = run_length p in
      let next = due_next bytes p in
      let split : k ≡ length (run bytes p) + (k - size_of bytes p / 8) = omega arith in
      let same : due bytes (p + 1) + 8 * (k - size_of bytes p / 8) ≡ due bytes p + 8 * k = omega arith in
      ap (slice_get (run bytes p ++ rest)) split
      ∙ nth_back (run bytes p) rest (k - size_of bytes p / 8)
      ∙ ih same
      ∙ ap (λ b. Some (entry q (word_at bytes b) (word_at bytes (b + 4)))) same

  pub stated_at : (p m n k q : ℕ) → p + m ≡ n → Upto n → p ≤ q → q < n → offset_of bytes q ≤ due bytes p + 8 * k → due bytes p + 8 * k < offset_of bytes q + size_of bytes q → slice_get (flat_map (run bytes) (range_with_len p m)) k ≡ Some (entry_at bytes q (due bytes p) k)
  stated_at p zero n k q e ok from q<n low high = absurd (omega arith)
  stated_at p (suc m) n k q e ok from q<n low high =
      ⊎_elim
      (λ same.
      let o : offset_of bytes p ≡ offset_of bytes q = ap (offset_of bytes) same in
      let s : size_of bytes p ≡ size_of bytes q = ap (size_of bytes) same in
      stated_here p k (flat_map (run bytes) (range_with_len (p + 1) m)) (ok p (omega arith)) (omega arith)
      ∙ ap (λ a. Some (entry_at bytes a (due bytes p) k)) same)
      (λ apart.
      let less : p < q = omega arith in
      let d : p + 1 + (q - (p + 1)) ≡ q = omega arith in
      let far = in_order (p + 1) (q - (p + 1)) n (omega arith) ok in
      let at_q : due bytes (p + 1 + (q - (p + 1))) ≡ due bytes q = ap (due bytes) d in
      let placed_q : offset_of bytes q ≡ due bytes q = (ok q q<n).placed in
      stated_later p k q (flat_map (run bytes) (range_with_len (p + 1) m)) (ok p (omega arith)) (omega arith)
      (λ same. stated_at (p + 1) m n (k - size_of bytes p / 8) q (omega arith) ok (omega arith) q<n (omega arith) (omega arith)))
      (cases_eq p q)
