-- What is counted over the records and the arcs in force.
use Rattle.std.specs.Prelude.{ℕ, suc, ◌-◌, ◌≤◌, cond, Bool, true, false, not, ◌&&◌, List, map, filter, length, count_by, ◌==◌}
use Rattle.std.specs.List.{range_with_len}
use Rattle.paths.specs.declared.arc.Arc.{Arc}
use Rattle.catalogue.specs.Meanings.{Meaning, in_force}
use Rattle.graphs.specs.declared.record.PackageRecord.{PackageRecord}
use Rattle.graphs.specs.Records.{no_wave, of}
use Rattle.plans.specs.declared.counts.PlanCounts.{PlanCounts}
use Rattle.plans.specs.Plans.{largest}

-- has the package's record a wave?
abbrev pub waved : List PackageRecord → ℕ → Bool
waved records p = not ((of records p).wave == no_wave)

-- is it that of a job's name?
abbrev pub names_job : List PackageRecord → ℕ → Bool
names_job records p = waved records p && (of records p).group == p

abbrev pub named_jobs : List PackageRecord → List ℕ
named_jobs records = filter (names_job records) (range_with_len 0 (length records))

-- one more than the largest wave of a job, or 0
abbrev pub waves_told : List PackageRecord → ℕ
waves_told records = largest (map (λ p. suc (of records p).wave) (named_jobs records))

-- has an arc both ends in the plan, and, as asked, in one job or in two?
abbrev pub taken : {K : Type 0} → List PackageRecord → Bool → Arc K → Bool
taken records within e =
    (waved records e.from && waved records e.to) && cond within ((of records e.from).group == (of records e.to).group) (not ((of records e.from).group == (of records e.to).group))

-- few enough to count, and no more bytes that say that a job waits than arcs between jobs
pub record Countable {K : Type 0} (m : Meaning K) (records : List PackageRecord) (sets : List ℕ) : Type 0 where
  pub many : m.n ≤ length records
  pub few : length records ≤ 1024
  pub small : length sets ≤ 1048576
  pub enough : count_by (λ byte. byte == 2) sets ≤ length (filter (taken records false) (in_force m))

-- the counts, of the records and the set table that a plan leaves
abbrev pub counted : {K : Type 0} → List (Arc K) → List PackageRecord → List ℕ → PlanCounts
counted arcs records sets = record {
  jobs = length (named_jobs records);
  waves = waves_told records;
  merged = count_by (λ byte. byte == 2) sets;
  skipped = length (filter (taken records false) arcs) - count_by (λ byte. byte == 2) sets;
  inner = length (filter (taken records true) arcs);
}
