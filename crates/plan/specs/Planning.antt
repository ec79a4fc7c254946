-- What planning over the groups leaves.
use Rattle.std.specs.Prelude.{◌≡◌, ℕ, ◌<◌, ◌≤◌, List, length}
use Rattle.paths.specs.declared.arc.Arc.{Arc}
use Rattle.paths.specs.Chains.{Mem}
use Rattle.paths.specs.Groups.{group}
use Rattle.graphs.specs.declared.record.PackageRecord.{PackageRecord}
use Rattle.graphs.specs.Records.{of}
use Rattle.plans.specs.Plans.{bytes, wave_of, Planned}
use Rattle.plans.specs.Steps.{Spreads, Built, Between}
use Rattle.plan.specs.Tables.{Names, Seed}
use Rattle.plan.specs.Waves.{with_wave, wave_at}

-- The set table, and the waves of the records, by the graph E of g groups: some ranks are in the plan, each has its
-- name and its wave, and the jobs of all are taken.
pub record Laid (E : ℕ → ℕ → Type 0) (g n : ℕ) (changed : List ℕ) (old new : List PackageRecord) (sets : List ℕ) : Type 0 where
  pub live : List ℕ
  pub names : List ℕ
  pub waves : List ℕ
  pub spreads : Spreads E (Seed old changed) g live
  pub long : g ≤ length names
  pub named : Names old names
  pub built : Built (Between E live names) names waves sets n g
  pub entered : (p : ℕ) → p < n → of new p ≡ with_wave (of old p) (wave_at live waves (of old p).rank)

-- the records and the set table of a plan of n packages
pub record Filled {K : Type 0} (arcs : List (Arc K)) (n : ℕ) (changed : List ℕ) (records : List PackageRecord) (sets : List ℕ) : Type 0 where
  pub known : (c : ℕ) → Mem c changed → c < n
  pub long : length records ≡ n
  pub groups : (p : ℕ) → p < n → (of records p).group ≡ group arcs n p
  pub waves : (p : ℕ) → p < n → (of records p).wave ≡ wave_of arcs n changed p
  pub sets_are : sets ≡ bytes arcs n changed

-- planned in just n records, of arcs with both ends below n
unfoldable pub Placed : {K : Type 0} → List (Arc K) → ℕ → List ℕ → List PackageRecord → List PackageRecord → Type 0
Placed {K} arcs n changed old new = ((e : Arc K) → Mem e arcs → (e.from < n) × (e.to < n)) × (length old ≡ n) × (length new ≡ n) × Planned arcs n changed old new
