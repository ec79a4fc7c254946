-- Fields in a list of bytes.
use Rattle.std.proofs.Common.{◌≡◌, ℕ, ◌+◌, ◌*◌, ◌/◌, ◌%◌, ◌^◌, ◌<◌, ◌≤◌, List, ◌∷◌, ◌++◌, length, get_or, drop, sym, ap, ◌∙◌, arith}
use Rattle.std.proofs.lemmas.List.{get_or-drop, drop-drop, drop_more}
use Rattle.sheets.specs.Sheets.{word_at}
use Rattle.sheets.specs.Layout.{field}

pub length_field : (w : ℕ) (ys : List ℕ) → length (field w ++ ys) ≡ 4 + length ys
unfolding field
length_field w ys = omega arith

-- the bytes of a number that is made of bytes
module _ (a b c d : ℕ) (ha : a < 256) (hb : b < 256) (hc : c < 256) (hd : d < 256) where
  abbrev of_bytes : ℕ
  of_bytes = a + b * 256 + c * 65536 + d * 16777216

  split_of : (x q r : ℕ) → r < 256 → x ≡ q * 256 + r → (x / 256 ≡ q) × (x % 256 ≡ r)
  split_of x q r h e = (omega arith, omega arith)

  s0 : (of_bytes / 256 ≡ b + c * 256 + d * 65536) × (of_bytes % 256 ≡ a)
  s0 = split_of of_bytes (b + c * 256 + d * 65536) a ha (omega arith)

  s1 : (of_bytes / 256 / 256 ≡ c + d * 256) × (of_bytes / 256 % 256 ≡ b)
  s1 = split_of (of_bytes / 256) (c + d * 256) b hb (s0.0 ∙ omega arith)

  s2 : (of_bytes / 256 / 256 / 256 ≡ d) × (of_bytes / 256 / 256 % 256 ≡ c)
  s2 = split_of (of_bytes / 256 / 256) d c hc (s1.0 ∙ omega arith)

  s3 : (of_bytes / 256 / 256 / 256 / 256 ≡ 0) × (of_bytes / 256 / 256 / 256 % 256 ≡ d)
  s3 = split_of (of_bytes / 256 / 256 / 256) 0 d hd (s2.0 ∙ omega arith)

  pub from_bytes : (xs : List ℕ) → a ∷ b ∷ c ∷ d ∷ xs ≡ field of_bytes ++ xs
  unfolding field
  from_bytes xs = sym (simp (s0.1, s1.1, s2.1, s3.1))

module _ (bytes : List ℕ) (at : ℕ) where
  word_drop : word_at bytes at ≡ word_at (drop at bytes) 0
  unfolding word_at
  word_drop =
      let a : at + 0 ≡ at = omega arith in
      simp (get_or-drop, a)

  module _ (w : ℕ) (ys : List ℕ) (here : drop at bytes ≡ field w ++ ys) where
    pub field_read : w < 2 ^ 32 → word_at bytes at ≡ w
    unfolding word_at field
    field_read h = word_drop ∙ ap (λ xs. word_at xs 0) here ∙ omega arith

    pub field_past : drop (at + 4) bytes ≡ ys
    unfolding field
    field_past = sym (drop-drop 4 at bytes) ∙ ap (drop 4) here

  pub field_written : ((i : ℕ) → get_or bytes i 0 < 256) → at + 4 ≤ length bytes → drop at bytes ≡ field (word_at bytes at) ++ drop (at + 4) bytes
  unfolding word_at field
  field_written small h =
      let e1 : at + 1 + 1 ≡ at + 2 = omega arith in
      let e2 : at + 2 + 1 ≡ at + 3 = omega arith in
      let e3 : at + 3 + 1 ≡ at + 4 = omega arith in
      let d0 = drop_more bytes at 0 (omega arith) in
      let d1 = drop_more bytes (at + 1) 0 (omega arith) ∙ ap (λ k. get_or bytes (at + 1) 0 ∷ drop k bytes) e1 in
      let d2 = drop_more bytes (at + 2) 0 (omega arith) ∙ ap (λ k. get_or bytes (at + 2) 0 ∷ drop k bytes) e2 in
      let d3 = drop_more bytes (at + 3) 0 (omega arith) ∙ ap (λ k. get_or bytes (at + 3) 0 ∷ drop k bytes) e3 in
      let all = d0 ∙ ap (λ xs. get_or bytes at 0 ∷ xs) (d1 ∙ ap (λ xs. get_or bytes (at + 1) 0 ∷ xs) (d2 ∙ ap (λ xs. get_or bytes (at + 2) 0 ∷ xs) d3)) in
      all ∙ from_bytes (get_or bytes at 0) (get_or bytes (at + 1) 0) (get_or bytes (at + 2) 0) (get_or bytes (at + 3) 0) (small at) (small (at + 1)) (small (at + 2)) (small (at + 3)) (drop (at + 4) bytes)
