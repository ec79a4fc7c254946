-- Rows within a table.
use Rattle.std.proofs.Common.{ℕ, ◌+◌, ◌*◌, ◌/◌, ◌<◌, ◌≤◌, arith}
use Rattle.std.proofs.lemmas.Nat.{row_fits, div-add-mod'}

pub row_within : (n p : ℕ) → p < n → p * n + n ≤ n * n
row_within n p h = row_fits p n n n h (omega arith)

-- the rows that are whole
pub row_whole : (cells n p : ℕ) → p < cells / n → p * n + n ≤ cells
row_whole cells n p h = omega (arith, row_fits p n (cells / n) n h (omega arith), div-add-mod' cells n)

-- a row ends where a later one starts, or before
pub row_before : (n p q : ℕ) → p < q → p * n + n ≤ q * n
row_before n p q h = row_fits p n q n h (omega arith)
