-- Tables of n × n labels, cell i × n + j for the pair (i, j), and how many rounds a table takes.
use Rattle.std.specs.Prelude.{◌≡◌, ℕ, zero, suc, ◌+◌, ◌*◌, ◌<◌, ◌≤◌, Bool, true, cond, ◌&&◌, List, map, ◌==◌, slice_index_or}
use Rattle.std.specs.List.{range_with_len, flat_map}
use Rattle.labels.specs.Algebra.{Ops}
use Rattle.paths.specs.Chains.{Arc, join_over, L, Still}

-- f of every pair below n, written out row by row
abbrev pub table : {K : Type 0} → ℕ → (ℕ → ℕ → K) → List K
table n f = flat_map (λ i. map (f i) (range_with_len 0 n)) (range_with_len 0 n)

-- the cell of the pair (i, j)
abbrev pub cell : {K : Type 0} → Ops K → ℕ → List K → ℕ → ℕ → K
cell o n cells i j = slice_index_or cells (i * n + j) o.none

-- the cells are those of the table T
abbrev pub Shows : {K : Type 0} → Ops K → ℕ → List K → (ℕ → ℕ → K) → Type 0
Shows o n cells T = (i j : ℕ) → i < n → j < n → cell o n cells i j ≡ T i j

-- does the test hold of every number below n?
abbrev pub every : (ℕ → Bool) → ℕ → Bool
every test zero = true
every test (suc n) = every test n && test n

-- the first number from k on that passes the test, among so many; else the one after them
abbrev pub first_from : (ℕ → Bool) → ℕ → ℕ → ℕ
first_from test zero k = k
first_from test (suc more) k = cond (test k) k (first_from test more (suc k))

module _ {K : Type 0} (o : Ops K) (arcs : List (Arc K)) (n : ℕ) where
  -- is L(m + 1) = L(m) for every pair below n?
  abbrev pub is_still : ℕ → Bool
  is_still m = every (λ i. every (λ j. o.same (L o arcs (suc m) i j) (L o arcs m i j)) n) n

  -- the least m of 1 or more with L(m + 1) = L(m), which is at most n
  abbrev pub rounds_made : ℕ
  rounds_made = first_from is_still n 1

  pub record LeastStill (m : ℕ) : Type 0 where
    pub some : 1 ≤ m
    pub still : Still o arcs n m
    pub least : (k : ℕ) → 1 ≤ k → k < m → Still o arcs n k → ⊥

-- one arc put before each way of the table X: at (i, j) the join, over the arcs from i, of the arc's label extended
-- by X's label from the arc's end to j
abbrev pub before : {K : Type 0} → Ops K → List (Arc K) → (ℕ → ℕ → K) → ℕ → ℕ → K
before o arcs X i j = join_over o (λ a. cond (a.from == i) (o.extend a.label (X a.to j)) o.none) arcs

-- every pair is joined with its way through k
abbrev pub through : {K : Type 0} → Ops K → ℕ → (ℕ → ℕ → K) → ℕ → ℕ → K
through o k T i j = o.join (T i j) (o.extend (T i k) (T k j))

-- the table T once the packages below k are eliminated
abbrev pub eliminated : {K : Type 0} → Ops K → (ℕ → ℕ → K) → ℕ → ℕ → ℕ → K
eliminated o T zero = T
eliminated o T (suc k) = through o k (eliminated o T k)
