-- Five packages with six arcs, sorted.
use Rattle.std.proofs.Common.{◌≡◌, ℕ, true, List, [], ◌∷◌, map, length, is_ok, sym, refl, ap, ◌∙◌, subst, take_all, arith}
use Rattle.labels.specs.declared.kinds.Minutes.{Minutes}
use Rattle.labels.specs.Kinds.{minutes_ops, minutes_named, minutes_of}
use Rattle.catalogue.specs.Makings.{first_meaning}
use Rattle.catalogue.specs.Refusals.{answer}
use Rattle.graphs.specs.declared.record.PackageRecord.{PackageRecord}
use Rattle.runs.specs.Steps.{Step}
use Rattle.runs.specs.declared.step.StepFor.TheVariants.{Alter}
use Rattle.worked.specs.Asked.{count_from, Named}
use Rattle.worked.specs.Worked.{five, six}
use Rattle.worked.specs.declared.five.PlanOfFive.{PlanOfFive}
use Rattle.worked.specs.Fives.{counted, PlanIs, PlannedFrom}

-- sort takes them, and what it names
pub six_named : (steps : List (Step Minutes)) (records : List PackageRecord) (names : List ℕ) → steps ≡ map Alter (six minutes_of) → length records ≡ 5
    → (is_ok (count_from minutes_ops (first_meaning minutes_ops minutes_named five) steps 5 86) ≡ true → Named minutes_ops (first_meaning minutes_ops minutes_named five) steps records)
    → names ≡ map (λ r. r.group) records → names ≡ 0 ∷ 1 ∷ 2 ∷ 2 ∷ 4 ∷ []
six_named steps records names are long named is =
    is ∙ ap (map (λ r. r.group)) (sym (take_all 5 records (omega (arith, long))))
    ∙ subst (λ s. is_ok (count_from minutes_ops (first_meaning minutes_ops minutes_named five) s 5 86) ≡ true → Named minutes_ops (first_meaning minutes_ops minutes_named five) s records) are named refl

-- and the plan for package 3
pub six_planned : (steps : List (Step Minutes)) (p : PlanOfFive) → PlannedFrom minutes_ops (first_meaning minutes_ops minutes_named five) steps (3 ∷ []) p
    → steps ≡ map Alter (six minutes_of) → PlanIs (counted 4 4 3 1 2) (0 ∷ 1 ∷ 2 ∷ 2 ∷ 4 ∷ []) (2 ∷ 1 ∷ 0 ∷ 0 ∷ 3 ∷ [])
    (0 ∷ 2 ∷ 1 ∷ 0 ∷ 0 ∷ 0 ∷ 0 ∷ 2 ∷ 0 ∷ 0 ∷ 0 ∷ 0 ∷ 0 ∷ 0 ∷ 0 ∷ 0 ∷ 0 ∷ 0 ∷ 0 ∷ 0 ∷ 2 ∷ 1 ∷ 1 ∷ 0 ∷ 0 ∷ []) p
unfolding PlannedFrom PlanIs
six_planned steps p planned are =
    let x = subst (λ s. PlannedFrom minutes_ops (first_meaning minutes_ops minutes_named five) s (3 ∷ []) p) are planned in
    let ok : is_ok (answer p.told) ≡ true = ap is_ok x.told in
    let whole = sym (take_all 5 p.records (omega (arith, x.many))) in (
      x.told,
      ap (map (λ r. r.group)) whole ∙ x.groups_are ok,
      ap (map (λ r. r.wave)) whole ∙ x.waves_are ok,
      sym (take_all 25 p.sets (omega (arith, x.long))) ∙ x.sets_are ok,
    )
