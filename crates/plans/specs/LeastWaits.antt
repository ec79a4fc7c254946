-- The waits and waves of a plan, as its buffers have them.
use Rattle.std.specs.Prelude.{◌≡◌, ℕ, ◌+◌, ◌*◌, ◌<◌, ◌≤◌, Bool, true, List, take, count_by, ◌==◌, slice_index}
use Rattle.paths.specs.declared.arc.Arc.{Arc}
use Rattle.graphs.specs.declared.record.PackageRecord.{PackageRecord}
use Rattle.graphs.specs.Records.{of}
use Rattle.plans.specs.declared.counts.PlanCounts.{PlanCounts}
use Rattle.plans.specs.Plans.{planned, arcs_inside}
use Rattle.plans.specs.Relations.{Same, Numbers}
use Rattle.plans.specs.Laws.{Depends, Passes}

-- the set table has a 2 for a and b
abbrev pub WaitBytes : ℕ → List ℕ → ℕ → ℕ → Type 0
WaitBytes n sets a b = (a < n) × (b < n) × (slice_index sets (a * n + b) ≡ 2)

-- of the set table and the records that a plan left, and the counts that it answered
pub record LeastWaits {K : Type 0} (arcs : List (Arc K)) (n : ℕ) (changed : List ℕ) (sets : List ℕ) (records : List PackageRecord) (told : PlanCounts) : Type 0 where
  -- the waits connect the same pairs of jobs as the plan's arcs between jobs
  pub same : Same (Depends arcs n changed) (WaitBytes n sets)
  -- every other set of pairs, given by its test, that connects the same contains each wait
  pub least : (test : ℕ → ℕ → Bool) → Same (Depends arcs n changed) (Passes test) → (a b : ℕ) → WaitBytes n sets a b → Passes test a b
  -- the waves put each job above those that it depends on, and every numbering that does so gives each at least its wave
  pub above : Numbers (Depends arcs n changed) (λ a. (of records a).wave)
  pub lowest : (num : ℕ → ℕ) → Numbers (Depends arcs n changed) num → (p : ℕ) → p < n → planned arcs n changed p ≡ true → (of records p).wave ≤ num (of records p).group
  -- each arc in the plan is merged, skipped or inner, and those merged are the waits
  pub add_up : arcs_inside arcs n changed ≡ told.merged + told.skipped + told.inner
  pub merged : told.merged ≡ count_by (λ byte. byte == 2) (take (n * n) sets)
