-- Plans of five packages, by the definitions.
use Rattle.std.proofs.Common.{◌≡◌, ℕ, ◌*◌, min, true, List, [], map, length, take, Ok, Err, Result, is_ok, refl, ap, ap₂, ◌∙◌, subst}
use Rattle.std.specs.Borrow.{Bor}
use Rattle.labels.specs.Algebra.{Ops}
use Rattle.catalogue.specs.declared.refusal.Refusal.{Refusal}
use Rattle.catalogue.specs.Refusals.{answer, on_ok}
use Rattle.catalogue.specs.Ledgers.{ledger_made}
use Rattle.graphs.specs.declared.record.PackageRecord.{PackageRecord}
use Rattle.catalogue.specs.Meanings.{Meaning}
use Rattle.plans.specs.Answers.{plan_answer}
use Rattle.runs.specs.Steps.{Step}
use Rattle.runs.specs.declared.step.StepFor.TheVariants.{Plan}
use Rattle.runs.specs.declared.step.Outcome.{Outcome}
use Rattle.runs.specs.declared.step.Outcome.TheVariants as outcomes
use Rattle.runs.specs.Runs.{Memory, memory, sizes, answered}
use Rattle.runs.specs.Promises.{reckoned, Called, Asked}
use Rattle.runs.proofs.Promised.{left, bytes_left}
use Rattle.worked.specs.declared.five.PlanOfFive.{PlanOfFive}
use Rattle.worked.specs.Asked.{AskedFrom}
use Rattle.worked.specs.Fives.{PlannedAs, PlannedFrom}

module _ {K : Type 0} (o : Ops K) (packages : Bor (List ℕ)) where
  -- what is asked
  abbrev pub question : Step K
  question = Plan 25 (record { records = 5; words = 86 }) packages

  -- where the memory has as much
  module _ (m : Meaning K) (old new : Memory K) (p : PlanOfFive) (records : length old.records ≡ 5) (words : length old.words ≡ 86) (sets : length old.sets ≡ 25) where
    told : answered o m (sizes old) question ≡ on_ok (λ counts. outcomes.Planned counts) (plan_answer m packages.now 25 5 86)
    told = ap (on_ok (λ counts. outcomes.Planned counts)) (
        ap (λ x. plan_answer m packages.now (min 25 x) (min 5 (length old.records)) (min 86 (length old.words))) sets
        ∙ ap₂ (λ r w. plan_answer m packages.now 25 (min 5 r) (min 86 w)) records words)

    planned : Called o m question old new (answer p.told) → p.records ≡ new.records → p.sets ≡ new.sets → PlannedAs m packages.now p
    planned called same_records same_sets =
        let done = λ (ok : is_ok (answer p.told) ≡ true). (left o m old new (answer p.told) question called ok).1 in
        record {
          told = called.answers ∙ told;
          groups_are = λ ok. ap (λ rs. map (λ r. r.group) (take m.n rs)) same_records ∙ (done ok).records.groups;
          waves_are = λ ok. ap (λ rs. map (λ r. r.wave) (take m.n rs)) same_records ∙ (done ok).records.waves;
          sets_are = λ ok. ap (take (m.n * m.n)) same_sets ∙ bytes_left m packages.now old new (done ok);
          many = ap length same_records ∙ ap (λ t. t.records) called.as_long ∙ records;
          long = ap length same_sets ∙ ap (λ t. t.sets) called.as_long ∙ sets;
        }

  module _ (steps : List (Step K)) (table changed found table' changed' found' : List K) (records records' : List PackageRecord) (words sets words' sets' : List ℕ)
      (told : Result Outcome Refusal) (enough_records : length records ≡ 5) (enough_words : length words ≡ 86) (enough_sets : length sets ≡ 25) where
    from : (first : Result (Meaning K) ℕ)
        → AskedFrom o first steps question (memory table changed found records words sets) (memory table' changed' found' records' words' sets') (answer told)
        → PlannedFrom o first steps packages.now (record { told = told; records = records'; sets = sets' })
    unfolding AskedFrom PlannedFrom
    from (Ok m) asked =
        planned (reckoned o m steps) asked.0 (memory table' changed' found' records' words' sets') (record { told = told; records = records'; sets = sets' })
        (ap (λ t. t.records) asked.1.as_long ∙ enough_records) (ap (λ t. t.words) asked.1.as_long ∙ enough_words) (ap (λ t. t.sets) asked.1.as_long ∙ enough_sets)
        asked.2.reckoned_from_the_making_and_the_calls refl refl
    from (Err k) asked = asked.0

    pub planned_from : (places : ℕ) → places ≡ 8
        → AskedFrom o (ledger_made 5 places) steps question (memory table changed found records words sets) (memory table' changed' found' records' words' sets') (answer told)
        → PlannedFrom o (ledger_made 5 8) steps packages.now (record { told = told; records = records'; sets = sets' })
    planned_from places as_many asked =
        from (ledger_made 5 8)
        (subst (λ k. AskedFrom o (ledger_made 5 k) steps question (memory table changed found records words sets) (memory table' changed' found' records' words' sets') (answer told)) as_many asked)

    pub planned_of : (m : Meaning K) → Asked o m steps question (memory table changed found records words sets) (memory table' changed' found' records' words' sets') (answer told)
        → PlannedFrom o (Ok m) steps packages.now (record { told = told; records = records'; sets = sets' })
    unfolding Asked AskedFrom
    planned_of m asked = from (Ok m) (asked m [] refl)
