-- Sort, a closing by order and plan in the first records and words of a run.
use Rattle.std.proofs.Common.{◌≡◌, ℕ, ◌*◌, ◌≤◌, min, Bool, true, false, not, cond, ◌||◌, List, ◌++◌, length, take, drop, is_ok, Ok, Err, Result, sym, refl, ap, ◌∙◌, ap₂, true≢false, arith}
use Rattle.std.proofs.lemmas.Bool.{or_parts, ltb-false}
use Rattle.labels.specs.Algebra.{Ops}
use Rattle.paths.specs.Groups.{looped}
use Rattle.catalogue.specs.Meanings.{Meaning, Sound, in_force}
use Rattle.catalogue.specs.Refusals.{then}
use Rattle.tables.specs.Closings.{short, closing_leaves}
use Rattle.tables.proofs.Parts.{length_part, part_kept, part_written, part_left}
use Rattle.graphs.specs.Records.{Sorted}
use Rattle.graphs.specs.declared.record.PackageRecord.{PackageRecord}
use Rattle.graphs.specs.Answers.{lacks, sort_answer, order_lacks, order_answer}
use Rattle.graphs.proofs.Edges.{ends}
use Rattle.graphs.proofs.SortedParts.{sorted_part}
use Rattle.plans.specs.declared.counts.PlanCounts.{PlanCounts}
use Rattle.plans.specs.Plans.{Planned, counts, bytes}
use Rattle.plans.specs.Answers.{plan_lacks, changed_answer, plan_answer, plan_leaves}
use Rattle.plans.proofs.PlannedParts.{planned_part}
use Rattle.runs.specs.Runs.{Filed, PlanFiled}

pub filed_whole : {K : Type 0} (m : Meaning K) (lacking : Bool) (old new : List PackageRecord) (words words' : List ℕ)
    → (lacking ≡ false → Sorted (in_force m) m.n old new) → (lacking ≡ true → (new ≡ old) × (words' ≡ words)) → Filed m (not lacking) old new words words'
filed_whole m true old new words words' sorts keeps = record { sorted = λ z. absurd (true≢false (sym z)); kept = λ _. keeps refl }
filed_whole m false old new words words' sorts keeps = record { sorted = λ _. sorts refl; kept = λ z. absurd (true≢false z) }

-- what is answered is taken where it is not refused
pub taken : {A : Type 0} (refused : Bool) (x : A) (answer : Result A ℕ) → answer ≡ cond refused (Err 13) (Ok x) → is_ok answer ≡ not refused
taken true x answer e = ap is_ok e
taken false x answer e = ap is_ok e

-- what is taken lacked nothing
nothing_lacked : {A : Type 0} (lacking : Bool) (further : Result A ℕ) → is_ok (cond {A = Result A ℕ} lacking (Err 13) further) ≡ true → lacking ≡ false
nothing_lacked true further ok = absurd (true≢false (sym ok))
nothing_lacked false further ok = refl

-- nor did a plan that is taken
pub plan_taken : {K : Type 0} (m : Meaning K) (changed : List ℕ) (sets records words : ℕ) → is_ok (plan_answer m changed sets records words) ≡ true
    → (plan_lacks m sets records words ≡ false) × (m.n * m.n ≤ sets) × (m.n ≤ records)
plan_taken m changed sets records words ok =
    let enough = nothing_lacked (plan_lacks m sets records words) (then (changed_answer m changed) (λ _. Ok (counts (in_force m) m.n changed))) ok in
    let parts = or_parts (short m.n sets) (lacks m records words) enough in
    (enough, ltb-false sets (m.n * m.n) parts.0, ltb-false records m.n (or_parts _ _ parts.1).0)

module _ {K : Type 0} (o : Ops K) (m : Meaning K) (sound : Sound o m) where
  -- records enough to sort
  enough : (records words : ℕ) → lacks m records words ≡ false → m.n ≤ records
  enough records words e = ltb-false records m.n (or_parts _ _ e).0

  filed_part : (lacking : Bool) (k w : ℕ) (old part : List PackageRecord) (words free : List ℕ) → k ≤ length old → length part ≡ k
      → (lacking ≡ false → m.n ≤ k)
      → (lacking ≡ false → Sorted (in_force m) m.n (take k old) part)
      → (lacking ≡ true → (part ≡ take k old) × (free ≡ take w words))
      → Filed m (not lacking) old (part ++ drop k old) words (free ++ drop w words)
  filed_part true k w old part words free within long fits sorts keeps = record {
    sorted = λ z. absurd (true≢false (sym z));
    kept = λ _. let kept = keeps refl in (part_kept k old part kept.0, part_kept w words free kept.1);
  }
  filed_part false k w old part words free within long fits sorts keeps = record {
    sorted = λ _. sorted_part (in_force m) m.n (ends m o sound) k old part (fits refl) within long (sorts refl);
    kept = λ z. absurd (true≢false z);
  }

  pub sort_filed : (answer : Result ℕ ℕ) (k w some few : ℕ) (old part : List PackageRecord) (words free : List ℕ)
      → k ≡ min some (length old) → w ≡ min few (length words) → length part ≡ length (take k old)
      → answer ≡ sort_answer m (length (take k old)) (length (take w words))
      → (is_ok answer ≡ true → Sorted (in_force m) m.n (take k old) part)
      → (is_ok answer ≡ false → (part ≡ take k old) × (free ≡ take w words))
      → (answer ≡ sort_answer m (min some (length old)) (min few (length words)))
      × Filed m (not (lacks m (min some (length old)) (min few (length words)))) old (part ++ drop k old) words (free ++ drop w words)
  sort_filed answer k w some few old part words free e f long is sorts keeps =
      let told = is ∙ ap₂ (sort_answer m) (length_part old k some e) (length_part words w few f) in
      let ok = taken (lacks m (min some (length old)) (min few (length words))) _ answer told in (
        told,
        filed_part _ k w old part words free (omega (arith, e)) (omega (arith, long, length_part old k some e, e))
            (λ z. omega (arith, e, enough _ _ z)) (λ z. sorts (ok ∙ ap not z)) (λ z. keeps (ok ∙ ap not z)),
      )

  -- the same of a closing by order
  pub order_filed : (answer : Result (Unit {0}) ℕ) (j k w cells some few : ℕ) (table part_table : List K) (old part : List PackageRecord) (words free : List ℕ)
      → j ≡ min cells (length table) → k ≡ min some (length old) → w ≡ min few (length words) → length part ≡ length (take k old)
      → answer ≡ order_answer m (length (take j table)) (length (take k old)) (length (take w words))
      → part_table ≡ closing_leaves o m answer (take j table)
      → (order_lacks m (length (take j table)) (length (take k old)) (length (take w words)) ≡ false → Sorted (in_force m) m.n (take k old) part)
      → (order_lacks m (length (take j table)) (length (take k old)) (length (take w words)) ≡ true → (part ≡ take k old) × (free ≡ take w words))
      → (answer ≡ order_answer m (min cells (length table)) (min some (length old)) (min few (length words)))
      × (part_table ++ drop j table ≡ closing_leaves o m answer table)
      × Filed m (not (order_lacks m (min cells (length table)) (min some (length old)) (min few (length words)))) old (part ++ drop k old) words (free ++ drop w words)
  order_filed answer j k w cells some few table part_table old part words free d e f long is left sorts keeps =
      let at = ap (λ x. order_lacks m x (length (take k old)) (length (take w words))) (length_part table j cells d)
      ∙ ap₂ (order_lacks m (min cells (length table))) (length_part old k some e) (length_part words w few f) in
      let told = is ∙ ap (λ l. cond l (Err 13) (cond (looped (in_force m) m.n) (Err 14) (Ok tt))) at in
      let short' : Bool = short m.n (min cells (length table)) in
      let lacks' : Bool = lacks m (min some (length old)) (min few (length words)) in (
        told,
        part_left o m answer j table part_table (omega (arith, d)) (λ ok. omega (arith, d, ltb-false _ _ (or_parts short' lacks' (nothing_lacked (short' || lacks') (cond (looped (in_force m) m.n) (Err 14) (Ok tt)) (sym (ap is_ok told) ∙ ok))).0)) left,
        filed_part _ k w old part words free (omega (arith, e)) (omega (arith, long, length_part old k some e, e))
            (λ z. omega (arith, e, enough _ _ (or_parts short' lacks' z).1)) (λ z. sorts (at ∙ z)) (λ z. keeps (at ∙ z)),
      )

  plan_filed_part : (does : Bool) (changed : List ℕ) (k w : ℕ) (old part : List PackageRecord) (words free : List ℕ) → k ≤ length old → length part ≡ k
      → (does ≡ true → m.n ≤ k)
      → (does ≡ true → Planned (in_force m) m.n changed (take k old) part)
      → (does ≡ false → (part ≡ take k old) × (free ≡ take w words))
      → PlanFiled m changed does old (part ++ drop k old) words (free ++ drop w words)
  plan_filed_part does changed k w old part words free within long fits plans keeps = record {
    planned = λ z. planned_part (in_force m) m.n (ends m o sound) changed k old part (fits z) within long (plans z);
    kept = λ z. let kept = keeps z in (part_kept k old part kept.0, part_kept w words free kept.1);
  }

  -- and of a plan
  pub plan_filed : (changed : List ℕ) (answer : Result PlanCounts ℕ) (j k w cells some few : ℕ) (sets part_sets : List ℕ) (old part : List PackageRecord) (words free : List ℕ)
      → j ≡ min cells (length sets) → k ≡ min some (length old) → w ≡ min few (length words) → length part ≡ length (take k old)
      → answer ≡ plan_answer m changed (length (take j sets)) (length (take k old)) (length (take w words))
      → part_sets ≡ plan_leaves m changed answer (take j sets)
      → (is_ok answer ≡ true → Planned (in_force m) m.n changed (take k old) part)
      → (is_ok answer ≡ false → (part ≡ take k old) × (free ≡ take w words))
      → (answer ≡ plan_answer m changed (min cells (length sets)) (min some (length old)) (min few (length words)))
      × (part_sets ++ drop j sets ≡ plan_leaves m changed answer sets)
      × PlanFiled m changed (is_ok answer) old (part ++ drop k old) words (free ++ drop w words)
  plan_filed changed answer j k w cells some few sets part_sets old part words free d e f long is left plans keeps =
      let told =
      is ∙ ap (λ x. plan_answer m changed x (length (take k old)) (length (take w words))) (length_part sets j cells d)
      ∙ ap₂ (plan_answer m changed (min cells (length sets))) (length_part old k some e) (length_part words w few f) in
      let fits = λ (ok : is_ok answer ≡ true). plan_taken m changed (min cells (length sets)) (min some (length old)) (min few (length words)) (sym (ap is_ok told) ∙ ok) in (
        told,
        part_written (is_ok answer) (bytes (in_force m) m.n changed) (m.n * m.n) j sets part_sets (omega (arith, d))
            (λ ok. omega (arith, d, (fits ok).1)) left,
        plan_filed_part (is_ok answer) changed k w old part words free (omega (arith, e)) (omega (arith, long, length_part old k some e, e))
            (λ ok. omega (arith, e, (fits ok).2)) plans keeps,
      )
