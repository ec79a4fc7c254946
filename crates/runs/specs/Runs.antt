-- Runs of calls that include closings, sort and plan.
use Rattle.std.specs.Prelude.{◌≡◌, ℕ, min, Bool, true, false, not, ◌||◌, List, [], ◌∷◌, length, is_ok, Result}
use Rattle.labels.specs.Algebra.{Ops}
use Rattle.catalogue.specs.Refusals.{on_ok}
use Rattle.catalogue.specs.Meanings.{Meaning, in_force}
use Rattle.catalogue.specs.declared.call.Call.{Call}
use Rattle.catalogue.specs.Runs.{call_answer, reckon}
use Rattle.runs.specs.Steps.{Step}
use Rattle.runs.specs.declared.step.StepFor.TheVariants.{Alter, Rounds, Eliminate, Order, Sort, Plan}
use Rattle.runs.specs.declared.step.Outcome.{Outcome}
use Rattle.runs.specs.declared.step.Outcome.TheVariants as outcomes
use Rattle.tables.specs.Closings.{rounds_answer, elimination_answer, closing_leaves}
use Rattle.graphs.specs.Records.{Sorted}
use Rattle.graphs.specs.declared.record.PackageRecord.{PackageRecord}
use Rattle.graphs.specs.Answers.{lacks, sort_answer, order_lacks, order_answer}
use Rattle.plans.specs.Plans.{Planned}
use Rattle.plans.specs.Answers.{plan_answer, plan_leaves}

-- the calls that alter a meaning; closings, sort and plan alter none
abbrev pub alterations : {K : Type 0} → List (Step K) → List (Call K)
alterations [] = []
alterations (Alter c ∷ calls) = c ∷ alterations calls
alterations (Rounds cells ∷ calls) = alterations calls
alterations (Eliminate cells ∷ calls) = alterations calls
alterations (Order cells room ∷ calls) = alterations calls
alterations (Sort room ∷ calls) = alterations calls
alterations (Plan cells room changed ∷ calls) = alterations calls

-- the memory of a run: its label table, two spare ones, its records, work words and set table
pub record Memory (K : Type 0) : Type 0 where
  pub table : List K
  pub changed : List K
  pub found : List K
  pub records : List PackageRecord
  pub words : List ℕ
  pub sets : List ℕ

abbrev pub memory : {K : Type 0} → List K → List K → List K → List PackageRecord → List ℕ → List ℕ → Memory K
memory table changed found records words sets =
    record { table = table; changed = changed; found = found; records = records; words = words; sets = sets }

-- how long these are
pub record Lengths : Type 0 where
  pub table : ℕ
  pub changed : ℕ
  pub found : ℕ
  pub records : ℕ
  pub words : ℕ
  pub sets : ℕ

abbrev pub lengths : {K : Type 0} → List K → List K → List K → List PackageRecord → List ℕ → List ℕ → Lengths
lengths table changed found records words sets =
    record { table = length table; changed = length changed; found = length found; records = length records; words = length words; sets = length sets }

abbrev pub sizes : {K : Type 0} → Memory K → Lengths
sizes t = lengths t.table t.changed t.found t.records t.words t.sets

module _ {K : Type 0} (o : Ops K) where
  -- what a call answers that is taken, or the number of its refusal
  abbrev pub answered : Meaning K → Lengths → Step K → Result Outcome ℕ
  answered m t (Alter c) = on_ok (λ _. outcomes.Altered) (call_answer o m c)
  answered m t (Rounds cells) = on_ok (λ made. outcomes.Rounds made) (rounds_answer o m (min cells t.table) (min cells t.changed) (min cells t.found))
  answered m t (Eliminate cells) = on_ok (λ _. outcomes.Eliminated) (elimination_answer o m (min cells t.table))
  answered m t (Order cells room) = on_ok (λ _. outcomes.Ordered) (order_answer m (min cells t.table) (min room.records t.records) (min room.words t.words))
  answered m t (Sort room) = on_ok (λ groups. outcomes.Sorted groups) (sort_answer m (min room.records t.records) (min room.words t.words))
  answered m t (Plan cells room changed) = on_ok (λ counts. outcomes.Planned counts) (plan_answer m changed.now (min cells t.sets) (min room.records t.records) (min room.words t.words))

  -- what a call leaves in the run's label table
  abbrev pub tabled : Meaning K → Lengths → Step K → List K → List K
  tabled m t (Alter c) old = old
  tabled m t (Rounds cells) old = closing_leaves o m (answered m t (Rounds cells)) old
  tabled m t (Eliminate cells) old = closing_leaves o m (answered m t (Eliminate cells)) old
  tabled m t (Order cells room) old = closing_leaves o m (answered m t (Order cells room)) old
  tabled m t (Sort room) old = old
  tabled m t (Plan cells room changed) old = old

  -- what a call leaves in the run's set table
  abbrev pub set_left : Meaning K → Lengths → Step K → List ℕ → List ℕ
  set_left m t (Alter c) old = old
  set_left m t (Rounds cells) old = old
  set_left m t (Eliminate cells) old = old
  set_left m t (Order cells room) old = old
  set_left m t (Sort room) old = old
  set_left m t (Plan cells room changed) old = plan_leaves m changed.now (answered m t (Plan cells room changed)) old

  -- does a call write to the run's spare tables? only a closing by rounds that is taken
  abbrev pub spares_used : Meaning K → Lengths → Step K → Bool
  spares_used m t (Alter c) = false
  spares_used m t (Rounds cells) = is_ok (answered m t (Rounds cells))
  spares_used m t (Eliminate cells) = false
  spares_used m t (Order cells room) = false
  spares_used m t (Sort room) = false
  spares_used m t (Plan cells room changed) = false

  -- does one of a list of calls?
  abbrev pub some_spares_used : Meaning K → Lengths → List (Step K) → Bool
  some_spares_used m t [] = false
  some_spares_used m t (c ∷ calls) = spares_used m t c || some_spares_used (reckon o m (alterations (c ∷ []))) t calls

  -- what a list of calls leaves in the label table
  abbrev pub tables : Meaning K → Lengths → List (Step K) → List K → List K
  tables m t [] old = old
  tables m t (c ∷ calls) old = tables (reckon o m (alterations (c ∷ []))) t calls (tabled m t c old)

  -- and in the set table
  abbrev pub sets_left : Meaning K → Lengths → List (Step K) → List ℕ → List ℕ
  sets_left m t [] old = old
  sets_left m t (c ∷ calls) old = sets_left (reckon o m (alterations (c ∷ []))) t calls (set_left m t c old)

module _ {K : Type 0} where
  -- does a call sort? sort with long enough buffers, and so does a closing by order, be there a loop or not
  abbrev pub sorts : Meaning K → Lengths → Step K → Bool
  sorts m t (Alter c) = false
  sorts m t (Rounds cells) = false
  sorts m t (Eliminate cells) = false
  sorts m t (Order cells room) = not (order_lacks m (min cells t.table) (min room.records t.records) (min room.words t.words))
  sorts m t (Sort room) = not (lacks m (min room.records t.records) (min room.words t.words))
  sorts m t (Plan cells room changed) = false

  -- what is left in records and work words: where it sorts, the packages' records sorted and the words free; else all
  -- as it was
  pub record Filed (m : Meaning K) (does : Bool) (old new : List PackageRecord) (words words' : List ℕ) : Type 0 where
    pub sorted : does ≡ true → Sorted (in_force m) m.n old new
    pub kept : does ≡ false → (new ≡ old) × (words' ≡ words)

  -- the same of a plan for changed packages: where it is taken, the packages' records are the plan's
  pub record PlanFiled (m : Meaning K) (changed : List ℕ) (does : Bool) (old new : List PackageRecord) (words words' : List ℕ) : Type 0 where
    pub planned : does ≡ true → Planned (in_force m) m.n changed old new
    pub kept : does ≡ false → (new ≡ old) × (words' ≡ words)

  -- what a call leaves in the run's records and work words
  abbrev pub FiledBy : Meaning K → Lengths → Step K → List PackageRecord → List PackageRecord → List ℕ → List ℕ → Type 0
  FiledBy m t (Alter c) old new words words' = Filed m false old new words words'
  FiledBy m t (Rounds cells) old new words words' = Filed m false old new words words'
  FiledBy m t (Eliminate cells) old new words words' = Filed m false old new words words'
  FiledBy m t (Order cells room) old new words words' = Filed m (sorts m t (Order cells room)) old new words words'
  FiledBy m t (Sort room) old new words words' = Filed m (sorts m t (Sort room)) old new words words'
  FiledBy m t (Plan cells room changed) old new words words' =
      PlanFiled m changed.now (is_ok (plan_answer m changed.now (min cells t.sets) (min room.records t.records) (min room.words t.words))) old new words words'

  -- what a list of calls leaves there: one call after the other
  abbrev pub Files : Ops K → Meaning K → Lengths → List (Step K) → List PackageRecord → List PackageRecord → List ℕ → List ℕ → Type 0
  Files o m t [] old new words words' = (new ≡ old) × (words' ≡ words)
  Files o m t (c ∷ calls) old new words words' =
      (mid : List PackageRecord) × (free : List ℕ) × FiledBy m t c old mid words free
      × Files o (reckon o m (alterations (c ∷ []))) t calls mid new free words'
