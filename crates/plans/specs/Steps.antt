-- What the steps of a plan leave in their tables. Jobs are taken by rank: E r t says that an arc leads from the group
-- of rank r to that of rank t.
use Rattle.std.specs.Prelude.{◌≡◌, ◌≢◌, ℕ, ◌+◌, ◌*◌, ◌<◌, ◌≤◌, cond, ◌⊎◌, List, length, ◌==◌, slice_index}
use Rattle.plans.specs.Relations.{Reach, Connects, Wait}
use Rattle.graphs.specs.Searches.{Marked}

-- the byte of a and b
abbrev pub cell : List ℕ → ℕ → ℕ → ℕ → ℕ
cell sets n a b = slice_index sets (a * n + b)

-- the names of the ranks below g are different packages below n
pub record Named (names : List ℕ) (n g : ℕ) : Type 0 where
  pub long : g ≤ length names
  pub inside : (t : ℕ) → t < g → slice_index names t < n
  pub apart : (t u : ℕ) → t < g → u < g → slice_index names t ≡ slice_index names u → t ≡ u

-- edges between the ranks below g that do not rise
pub record Falling (E : ℕ → ℕ → Type 0) (g : ℕ) : Type 0 where
  pub tails : (r t : ℕ) → E r t → r < g
  pub falls : (r t : ℕ) → E r t → t ≤ r

-- c stands in the list
abbrev pub Listed : List ℕ → ℕ → Type 0
Listed xs c = (k : ℕ) × (k < length xs) × (slice_index xs k ≡ c)

-- the ranks in the plan so far: those of seeds, those below r from which an edge leads to one, and no others but such
-- as lead to a seed
pub record Spreads (E Seed : ℕ → ℕ → Type 0) (r : ℕ) (live : List ℕ) : Type 0 where
  pub seeds : (c t : ℕ) → Seed c t → Marked live t
  pub back : (u t : ℕ) → u < r → E u t → Marked live t → Marked live u
  pub sound : (t : ℕ) → Marked live t → (c : ℕ) × (u : ℕ) × Seed c u × Reach E t u

-- the flags are at the ranks in the plan, other than r itself, to which an edge leads from r
abbrev pub Aims : (ℕ → ℕ → Type 0) → List ℕ → ℕ → ℕ → Type 0
Aims E live r t = E r t × Marked live t × (t ≢ r)

pub record Flagged (E : ℕ → ℕ → Type 0) (live : List ℕ) (r : ℕ) (flags : List ℕ) : Type 0 where
  pub sound : (t : ℕ) → Marked flags t → Aims E live r t
  pub full : (t : ℕ) → Aims E live r t → Marked flags t

-- an arc in the plan leads from the group named a to that named b, another one
abbrev pub Between : (ℕ → ℕ → Type 0) → List ℕ → List ℕ → ℕ → ℕ → Type 0
Between E live names a b = (r : ℕ) × (t : ℕ) × Aims E live r t × (slice_index names r ≡ a) × (slice_index names t ≡ b)

-- a row after another row is added: 0 where neither has the job, else as it was, else 1
abbrev pub joined : ℕ → ℕ → ℕ
joined x y = cond (x == 0) (cond (y == 0) 0 1) x

-- a row once a target is taken with its set: as it was where the target stood in it, else with the set added and the
-- target waited for
pub record Takes (row : List ℕ) (target : ℕ) (set new : List ℕ) : Type 0 where
  pub skipped : 0 < slice_index row target → new ≡ row
  pub waited : slice_index row target ≡ 0 → slice_index new target ≡ 2
  pub added : slice_index row target ≡ 0 → (c : ℕ) → c < length row → c ≢ target → slice_index new c ≡ joined (slice_index row c) (slice_index set c)

-- c is the target of rank u or in the set of that target
abbrev pub Gives : List ℕ → List ℕ → List ℕ → ℕ → ℕ → ℕ → Type 0
Gives flags names sets n u c = Marked flags u × ((slice_index names u ≡ c) ⊎ (0 < cell sets n (slice_index names u) c))

-- no target of a higher rank below r has c in its set
abbrev pub Bare : List ℕ → List ℕ → List ℕ → ℕ → ℕ → ℕ → ℕ → Type 0
Bare flags names sets n r u c = (v : ℕ) → u < v → v < r → Marked flags v → 0 < cell sets n (slice_index names v) c → ⊥

-- a job's row once the targets of the ranks from t to r are taken, the highest first
pub record Merged (flags names sets : List ℕ) (n t r : ℕ) (row : List ℕ) : Type 0 where
  pub small : (c : ℕ) → c < n → slice_index row c ≤ 2
  pub sound : (c : ℕ) → c < n → 0 < slice_index row c → (u : ℕ) × (t ≤ u) × (u < r) × Gives flags names sets n u c
  pub full : (u c : ℕ) → c < n → t ≤ u → u < r → Gives flags names sets n u c → 0 < slice_index row c
  pub waits : (c : ℕ) → c < n → slice_index row c ≡ 2 → (u : ℕ) × (t ≤ u) × (u < r) × Marked flags u × (slice_index names u ≡ c) × Bare flags names sets n r u c
  pub all : (u : ℕ) → t ≤ u → u < r → Marked flags u → Bare flags names sets n r u (slice_index names u) → slice_index row (slice_index names u) ≡ 2

-- what is in the set of a job of a set is in that set
pub record Nested (names sets : List ℕ) (n r : ℕ) : Type 0 where
  pub within : (t u c : ℕ) → t < r → u < r → c < n → 0 < cell sets n (slice_index names t) (slice_index names u) → 0 < cell sets n (slice_index names u) c → 0 < cell sets n (slice_index names t) c

-- one more than the largest wave among the flagged ranks below r, else 0
pub record Deep (flags waves : List ℕ) (r d : ℕ) : Type 0 where
  pub above : (t : ℕ) → t < r → Marked flags t → slice_index waves t < d
  pub tight : (d ≡ 0) ⊎ ((t : ℕ) × (t < r) × Marked flags t × (d ≡ slice_index waves t + 1))

-- the row of a in the set table says what D connects a to, and what a waits for
pub record Rowed (D : ℕ → ℕ → Type 0) (sets : List ℕ) (n a : ℕ) : Type 0 where
  pub small : (c : ℕ) → c < n → cell sets n a c ≤ 2
  pub sound : (c : ℕ) → c < n → 0 < cell sets n a c → Connects D a c
  pub full : (c : ℕ) → c < n → Connects D a c → 0 < cell sets n a c
  pub waits : (c : ℕ) → c < n → cell sets n a c ≡ 2 → Wait D a c
  pub all : (c : ℕ) → c < n → Wait D a c → cell sets n a c ≡ 2

-- d is the wave of a, after the waves of the ranks below r
pub record Waved (D : ℕ → ℕ → Type 0) (names waves : List ℕ) (r a d : ℕ) : Type 0 where
  pub above : (u : ℕ) → u < r → D a (slice_index names u) → slice_index waves u < d
  pub tight : (d ≡ 0) ⊎ ((u : ℕ) × (u < r) × D a (slice_index names u) × (d ≡ slice_index waves u + 1))

-- the tables once the ranks below r are done
pub record Built (D : ℕ → ℕ → Type 0) (names waves sets : List ℕ) (n r : ℕ) : Type 0 where
  pub rows : (t : ℕ) → t < r → Rowed D sets n (slice_index names t)
  pub blank : (a c : ℕ) → c < n → ((t : ℕ) → t < r → slice_index names t ≢ a) → cell sets n a c ≡ 0
  pub low : (t : ℕ) → t < r → slice_index waves t ≤ t
  pub waved : (t : ℕ) → t < r → Waved D names waves t (slice_index names t) (slice_index waves t)
  pub rest : (t : ℕ) → r ≤ t → slice_index waves t ≡ 0
