-- Rows of a table of n × n labels, which lie one after the other.
use Rattle.std.specs.Prelude.{◌≡◌, ℕ, ◌+◌, ◌*◌, ◌<◌, ◌≤◌, List, [], ◌∷◌, length}
use borrow.Rule.Slice.PartMut.{put_mid}
use Rattle.std.specs.List.{between}
use Rattle.labels.specs.Algebra.{Ops}
use Rattle.paths.specs.Tables.{cell}

-- so many cells as n × n labels take
abbrev pub Square : {M : Type 0} → ℕ → List M → Type 0
Square n cells = length cells ≡ n * n

-- row i
abbrev pub row : {M : Type 0} → ℕ → List M → ℕ → List M
row n cells i = between (i * n) (i * n + n) cells

-- the cells with another row i
abbrev pub put_row : {M : Type 0} → ℕ → List M → ℕ → List M → List M
put_row n cells i new = put_mid (i * n) n cells new

-- every label of the row joined with the way over `first` and then the label of `via` at the same column
abbrev pub relaxed : {M : Type 0} → Ops M → M → List M → List M → List M
relaxed o first row [] = row
relaxed o first [] (y ∷ via) = []
relaxed o first (x ∷ row) (y ∷ via) = o.join x (o.extend first y) ∷ relaxed o first row via

-- the pairs are joined with the ways over the label in column k and then those of `ways`
abbrev pub over_column : {M : Type 0} → Ops M → ℕ → (ℕ → M) → (ℕ → ℕ → M) → ℕ → ℕ → M
over_column o k ways T i j = o.join (T i j) (o.extend (T i k) (ways j))

-- so are those of every whole row
abbrev pub Reaches : {M : Type 0} → Ops M → ℕ → ℕ → (ℕ → M) → List M → List M → Type 0
Reaches o n k ways old new = (i j : ℕ) → i * n + n ≤ length old → j < n → cell o n new i j ≡ over_column o k ways (cell o n old) i j
