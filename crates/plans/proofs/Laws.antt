-- The laws of plans hold.
use Rattle.std.proofs.Common.{ℕ, ◌<◌, List}
use Rattle.paths.specs.declared.arc.Arc.{Arc}
use Rattle.paths.specs.Chains.{Mem}
use Rattle.paths.proofs.Groups.{grouped}
use Rattle.plans.specs.Laws.{PlanLaws}
use Rattle.plans.proofs.Meaning.{planned_sound, planned_full, job_planned, job_name, job_inside, group_job, set_connects, connects_set}
use Rattle.plans.proofs.Heights.{wave_waves, law_same, law_least, law_wave}
use Rattle.plans.proofs.Tallies.{law_counts}
use Rattle.plans.proofs.Unmoved.{same_plan}

module _ {K : Type 0} (arcs : List (Arc K)) (n : ℕ) (ends : (a : Arc K) → Mem a arcs → (a.from < n) × (a.to < n))
    (changed : List ℕ) (known : (c : ℕ) → Mem c changed → c < n) where
  pub plan_laws : PlanLaws arcs n changed
  plan_laws = record {
    planned_is = planned_sound arcs n ends changed known;
    planned_all = planned_full arcs n ends changed known;
    grouped = grouped arcs n ends;
    job_is = λ a h. (a, job_inside arcs n ends changed known a h, job_planned arcs n ends changed known a h, job_name arcs n ends changed known a h);
    job_all = λ p _ h. group_job arcs n ends changed known p h;
    set_is = set_connects arcs n ends changed known;
    set_all = connects_set arcs n ends changed known;
    same = law_same arcs n ends changed known;
    least = law_least arcs n ends changed known;
    waves = wave_waves arcs n ends changed known;
    lowest = law_wave arcs n ends changed known;
    add_up = law_counts arcs n ends changed known;
    any_order = same_plan arcs n ends changed;
  }
