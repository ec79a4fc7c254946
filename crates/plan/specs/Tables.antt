-- What the functions of the plan read and leave.
use Rattle.std.specs.Prelude.{◌≡◌, ◌≢◌, ℕ, ◌+◌, ◌<◌, List, ◌⊎◌, length, slice_index}
use Rattle.std.specs.List.{between}
use Rattle.graphs.specs.declared.record.PackageRecord.{PackageRecord}
use Rattle.graphs.specs.Records.{of}
use Rattle.graphs.specs.Searches.{Graph, Edge, Marked}
use Rattle.plans.specs.Steps.{Listed}
use Rattle.plan.specs.declared.condensed.Condensed.{Condensed}

-- the row of a rank
abbrev pub row_at : Condensed → ℕ → List ℕ
row_at c r = between (slice_index c.starts.now r) (slice_index c.starts.now (r + 1)) c.targets.now

-- an arc leads from the group of rank r to that of rank t
abbrev pub Leads : Condensed → ℕ → ℕ → Type 0
Leads c = Edge c.starts.now c.targets.now

-- n rows of ranks below n
abbrev pub Rows : Condensed → ℕ → Type 0
Rows c n = Graph c.starts.now c.targets.now n

-- each rank has its group's name
abbrev pub Names : List PackageRecord → List ℕ → Type 0
Names records names = (p : ℕ) → p < length records → slice_index names (of records p).rank ≡ (of records p).group

-- a changed package is of rank t
abbrev pub Seed : List PackageRecord → List ℕ → ℕ → ℕ → Type 0
Seed records changed c t = Listed changed c × ((of records c).rank ≡ t)

-- of the marks only that of rank r is new, and only if one of its targets has one
pub record Follows (targets : List ℕ) (r : ℕ) (old new : List ℕ) : Type 0 where
  pub kept : (t : ℕ) → Marked old t → Marked new t
  pub full : (k : ℕ) → k < length targets → Marked old (slice_index targets k) → Marked new r
  pub sound : (t : ℕ) → Marked new t → Marked old t ⊎ ((k : ℕ) × (k < length targets) × Marked old (slice_index targets k) × (t ≡ r))

-- the flags are at those of these ranks, other than `own`, that are in the plan
pub record Aimed (targets live : List ℕ) (own : ℕ) (flags : List ℕ) : Type 0 where
  pub sound : (t : ℕ) → Marked flags t → (k : ℕ) × (k < length targets) × (slice_index targets k ≡ t) × Marked live t × (t ≢ own)
  pub full : (k : ℕ) → k < length targets → Marked live (slice_index targets k) → slice_index targets k ≢ own → Marked flags (slice_index targets k)
