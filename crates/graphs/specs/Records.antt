-- What sort leaves in the records of packages.
use Rattle.std.specs.Prelude.{◌≡◌, ℕ, ◌<◌, Bool, List, map, take, drop, length, ◌==◌, slice_index_or}
use Rattle.std.specs.List.{range_with_len}
use Rattle.paths.specs.Chains.{Mem}
use Rattle.paths.specs.declared.arc.Arc.{Arc}
use Rattle.paths.specs.Tables.{every}
use Rattle.paths.specs.Groups.{group, groups, group_count}
pub use Rattle.graphs.specs.declared.record.PackageRecord.{PackageRecord}

-- the wave that means none
abbrev pub no_wave : ℕ
no_wave = 4294967295

-- what is read past the end of some records
abbrev pub blank : PackageRecord
blank = record { group = 0; rank = 0; wave = 0 }

-- the record of package p
abbrev pub of : List PackageRecord → ℕ → PackageRecord
of records p = slice_index_or records p blank

-- is each package the name of its group?
abbrev pub own_names : List PackageRecord → Bool
own_names records = every (λ p. (of records p).group == p) (length records)

-- ranks of the groups, each package with that of its own
pub record Ranked {K : Type 0} (arcs : List (Arc K)) (n : ℕ) (rank : ℕ → ℕ) : Type 0 where
  pub below : (p : ℕ) → p < n → rank p < group_count arcs n
  -- each number below the number of groups is a rank
  pub used : (k : ℕ) → k < group_count arcs n → (p : ℕ) × (p < n) × (rank p ≡ k)
  -- ranks are equal exactly within a group
  pub same : (p q : ℕ) → p < n → q < n → group arcs n p ≡ group arcs n q → rank p ≡ rank q
  pub apart : (p q : ℕ) → p < n → q < n → rank p ≡ rank q → group arcs n p ≡ group arcs n q
  -- an arc between two groups leads to the lower rank
  pub falls : (a : Arc K) → Mem a arcs → (group arcs n a.from ≡ group arcs n a.to → ⊥) → rank a.to < rank a.from

-- what sort makes of the records
pub record Sorted {K : Type 0} (arcs : List (Arc K)) (n : ℕ) (old new : List PackageRecord) : Type 0 where
  pub groups : map (λ r. r.group) (take n new) ≡ groups arcs n
  -- no package has a wave
  pub waves : map (λ r. r.wave) (take n new) ≡ map (λ _. no_wave) (range_with_len 0 n)
  -- the records from n on are as they were
  pub beyond : drop n new ≡ drop n old
  pub ranks : Ranked arcs n (λ p. (of new p).rank)
