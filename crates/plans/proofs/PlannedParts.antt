-- Plan in the first records of more.
use Rattle.std.proofs.Common.{◌≡◌, ℕ, ◌<◌, ◌≤◌, List, ◌++◌, map, length, take, drop, ap, ◌∙◌}
use Rattle.paths.specs.Chains.{Mem}
use Rattle.paths.specs.declared.arc.Arc.{Arc}
use Rattle.graphs.specs.declared.record.PackageRecord.{PackageRecord}
use Rattle.graphs.proofs.SortedParts.{first_part, beyond_part, ranks_part}
use Rattle.plans.specs.Plans.{Planned}

-- planned in the first k records, with the others behind them
pub planned_part : {K : Type 0} (arcs : List (Arc K)) (n : ℕ) (ends : (a : Arc K) → Mem a arcs → (a.from < n) × (a.to < n)) (changed : List ℕ)
    (k : ℕ) (old part : List PackageRecord) → n ≤ k → k ≤ length old → length part ≡ k
    → Planned arcs n changed (take k old) part → Planned arcs n changed old (part ++ drop k old)
planned_part arcs n ends changed k old part le within long s =
    let first = first_part arcs n ends k old part le within long in
    record {
      groups = ap (map (λ r. r.group)) first ∙ s.groups;
      waves = ap (map (λ r. r.wave)) first ∙ s.waves;
      beyond = beyond_part arcs n ends k old part le within long s.beyond;
      ranks = ranks_part arcs n ends k old part le within long s.ranks;
    }
