-- Plans of five packages.
use Rattle.std.specs.Prelude.{◌≡◌, ℕ, ◌*◌, true, false, List, map, length, take, is_ok, Ok, Err, Result}
use Rattle.std.specs.List.{range_with_len}
use Rattle.labels.specs.Algebra.{Ops}
use Rattle.labels.specs.declared.kinds.Minutes.{Minutes}
use Rattle.labels.specs.Kinds.{minutes_ops, minutes_named}
use Rattle.paths.specs.Groups.{groups}
use Rattle.catalogue.specs.declared.refusal.Refusal.{Refusal}
use Rattle.catalogue.specs.declared.call.Call.{Call}
use Rattle.catalogue.specs.Refusals.{answer, on_ok}
use Rattle.catalogue.specs.Makings.{Making, first_meaning}
use Rattle.catalogue.specs.Meanings.{Meaning, in_force}
use Rattle.plans.specs.declared.counts.PlanCounts.{PlanCounts}
use Rattle.plans.specs.Plans.{bytes, wave_of}
use Rattle.plans.specs.Answers.{plan_lacks, changed_answer, plan_answer}
use Rattle.plans.specs.Alike.{AlikeMeanings}
use Rattle.runs.specs.Steps.{Step}
use Rattle.runs.specs.declared.step.StepFor.TheVariants.{Alter}
use Rattle.runs.specs.declared.step.Outcome.TheVariants as outcomes
use Rattle.runs.specs.Promises.{reckoned}
use Rattle.worked.specs.declared.five.PlanOfFive.{PlanOfFive}
use Rattle.worked.specs.declared.alike.TwoPlans.{TwoPlans}

abbrev pub counted : ℕ → ℕ → ℕ → ℕ → ℕ → PlanCounts
counted j w m s i = record { jobs = j; waves = w; merged = m; skipped = s; inner = i }

-- a plan that is taken, with these counts, groups, waves and bytes
unfoldable pub PlanIs : PlanCounts → List ℕ → List ℕ → List ℕ → PlanOfFive → Type 0
PlanIs counts groups waves bytes p =
    (answer p.told ≡ Ok (outcomes.Planned counts)) × (map (λ r. r.group) p.records ≡ groups) × (map (λ r. r.wave) p.records ≡ waves) × (p.sets ≡ bytes)

-- two plans that are taken, with the same counts, groups, waves and bytes
pub record SamePlans (p q : PlanOfFive) : Type 0 where
  pub taken : is_ok (answer p.told) ≡ true
  pub told : answer p.told ≡ answer q.told
  pub groups_are : map (λ r. r.group) p.records ≡ map (λ r. r.group) q.records
  pub waves_are : map (λ r. r.wave) p.records ≡ map (λ r. r.wave) q.records
  pub sets_are : p.sets ≡ q.sets

module _ {K : Type 0} where
  -- what a plan for changed packages of m answers, and leaves where it is taken, by the definitions
  pub record PlannedAs (m : Meaning K) (changed : List ℕ) (p : PlanOfFive) : Type 0 where
    pub told : answer p.told ≡ on_ok (λ counts. outcomes.Planned counts) (plan_answer m changed 25 5 86)
    pub groups_are : is_ok (answer p.told) ≡ true → map (λ r. r.group) (take m.n p.records) ≡ groups (in_force m) m.n
    pub waves_are : is_ok (answer p.told) ≡ true → map (λ r. r.wave) (take m.n p.records) ≡ map (wave_of (in_force m) m.n changed) (range_with_len 0 m.n)
    pub sets_are : is_ok (answer p.told) ≡ true → take (m.n * m.n) p.sets ≡ bytes (in_force m) m.n changed
    pub many : length p.records ≡ 5
    pub long : length p.sets ≡ 25

  -- the plan after the steps, from that first meaning on
  unfoldable pub PlannedFrom : Ops K → Result (Meaning K) ℕ → List (Step K) → List ℕ → PlanOfFive → Type 0
  PlannedFrom o (Ok m) steps changed p = PlannedAs (reckoned o m steps) changed p
  PlannedFrom o (Err k) steps changed p = answer p.told ≡ Err k

  -- plans for the same packages of two meanings that are alike are the same, where the plan can be made
  unfoldable pub AlikeThen : Meaning K → Meaning K → List ℕ → TwoPlans → Type 0
  AlikeThen m m' changed t =
      AlikeMeanings m m' → m.n ≡ 5 → plan_lacks m 25 5 86 ≡ false → plan_lacks m' 25 5 86 ≡ false → changed_answer m changed ≡ Ok tt
      → PlannedAs m changed t.first → PlannedAs m' changed t.second → SamePlans t.first t.second

  -- from two first meanings on, with steps after the first
  unfoldable pub ComparedFrom : Ops K → Result (Meaning K) ℕ → List (Step K) → Result (Meaning K) ℕ → List ℕ → Result TwoPlans Refusal → Type 0
  ComparedFrom o (Ok m) steps (Ok m') changed (Ok t) =
      PlannedAs (reckoned o m steps) changed t.first × PlannedAs m' changed t.second × AlikeThen (reckoned o m steps) m' changed t
  ComparedFrom o (Ok m) steps (Ok m') changed (Err e) = ⊥
  ComparedFrom o (Ok m) steps (Err k) changed r = answer r ≡ Err k
  ComparedFrom o (Err k) steps second changed r = answer r ≡ Err k

-- two plans that are the same, each from its making and calls
unfoldable pub TwoAlike : Making → List (Call Minutes) → Making → List (Call Minutes) → List ℕ → Result TwoPlans Refusal → Type 0
TwoAlike making calls making' calls' changed (Ok t) =
    PlannedFrom minutes_ops (first_meaning minutes_ops minutes_named making) (map Alter calls) changed t.first
    × PlannedFrom minutes_ops (first_meaning minutes_ops minutes_named making') (map Alter calls') changed t.second
    × SamePlans t.first t.second
TwoAlike making calls making' calls' changed (Err e) = ⊥
