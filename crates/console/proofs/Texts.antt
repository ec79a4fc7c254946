-- Texts that are written piece by piece. Assumes nothing.
use Rattle.std.proofs.Common.{◌≡◌, ℕ, zero, suc, ◌+◌, List, [], ◌∷◌, ◌++◌, cond, eqb, get_or, Some, None, Option, sym, ap, ◌∙◌, append-nil, append_assoc, add-one, zero-add, arith}
use Rattle.std.specs.List.{range_with_len, flat_map}
use Rattle.graphs.specs.declared.record.PackageRecord.{PackageRecord}
use Rattle.console.specs.Grammar.{field}
use Rattle.console.specs.Jobs.{fields_of, awaited, job_text, job_of, job_line, wave_text, waves_text}

-- the piece of one number more
next_piece : (f : ℕ → List ℕ) (a n : ℕ) → flat_map f (range_with_len a (suc n)) ≡ flat_map f (range_with_len a n) ++ f (a + n)
next_piece f a zero = grind (arith, append-nil {A = ℕ})
next_piece f a (suc n) = let e = next_piece f (a + 1) n in grind (arith, append_assoc {A = ℕ})

pub piece_more : (f : ℕ → List ℕ) (n : ℕ) → flat_map f (range_with_len 0 (n + 1)) ≡ flat_map f (range_with_len 0 n) ++ f n
piece_more f n = rw add-one (next_piece f 0 n ∙ ap (λ k. flat_map f (range_with_len 0 n) ++ f k) (zero-add n))

-- a job that is waited for, and one that is not
pub wait_told : (row : List ℕ) (k : ℕ) → get_or row k 0 ≡ 2 → fields_of (awaited row) (k + 1) ≡ fields_of (awaited row) k ++ field k
wait_told row k is = grind (arith, piece_more (λ b. cond (eqb (get_or row b 0) 2) (field b) []) k)

pub wait_passed : (row : List ℕ) (k : ℕ) → (get_or row k 0 ≡ 2 → ⊥) → fields_of (awaited row) (k + 1) ≡ fields_of (awaited row) k
wait_passed row k not = grind (arith, piece_more (λ b. cond (eqb (get_or row b 0) 2) (field b) []) k, append-nil {A = ℕ})

module _ (records : List PackageRecord) (sets : List ℕ) (n : ℕ) where
  pub wave_more : (w : ℕ) → waves_text records sets n (w + 1) ≡ waves_text records sets n w ++ wave_text records sets n w n
  wave_more w = piece_more (λ v. wave_text records sets n v n) w

  module _ (w name : ℕ) where
    more : (o : Option (ℕ × ℕ × List ℕ)) → o ≡ job_of records sets n w name → wave_text records sets n w (name + 1) ≡ wave_text records sets n w name ++ job_line o
    more o e = piece_more (λ a. job_line (job_of records sets n w a)) name ∙ ap (λ x. wave_text records sets n w name ++ job_line x) (sym e)

    -- a job that a name is that of, and a name that is none's
    pub job_told : (j : ℕ × ℕ × List ℕ) → Some j ≡ job_of records sets n w name
        → wave_text records sets n w (name + 1) ≡ wave_text records sets n w name ++ (job_text j.0 j.1 j.2 ++ (10 ∷ []))
    job_told j e = more (Some j) e

    pub none_told : None ≡ job_of records sets n w name → wave_text records sets n w (name + 1) ≡ wave_text records sets n w name
    none_told e = more None e ∙ append-nil (wave_text records sets n w name)
