-- What is asked of a catalogue once it is made and a run is over.
use Rattle.std.specs.Prelude.{◌≡◌, ℕ, Bool, false, not, List, map, take, Ok, Err, Option, Result}
use Rattle.labels.specs.Algebra.{Ops}
use Rattle.catalogue.specs.declared.refusal.Refusal.{Refusal}
use Rattle.catalogue.specs.Refusals.{number, on_ok, then}
use Rattle.catalogue.specs.Meanings.{Meaning, in_force}
use Rattle.paths.specs.Groups.{groups}
use Rattle.catalogue.specs.Makings.{Making, first_meaning}
use Rattle.catalogue.specs.declared.call.Call.{Call}
use Rattle.catalogue.specs.Runs.{reckon}
use Rattle.runs.specs.Steps.{Step}
use Rattle.runs.specs.declared.step.Outcome.{Outcome}
use Rattle.tables.specs.Closings.{label_answer, closing_leaves}
use Rattle.graphs.specs.declared.record.PackageRecord.{PackageRecord}
use Rattle.graphs.specs.Answers.{lacks, sort_answer}
use Rattle.runs.specs.Runs.{Lengths, Memory, memory, tables, sets_left, some_spares_used, Filed, Files}
use Rattle.runs.specs.Promises.{reckoned, Ran, Promise}
use Rattle.runs.specs.AllClosings.{Buffers, AllClosed}
use Rattle.runs.specs.declared.agreement.Closings.{Closings}

-- the memory of a run: of these buffers those that a run takes, and a set table
abbrev pub with_sets : {K : Type 0} → Buffers K → List ℕ → Memory K
with_sets b sets = memory b.table b.changed b.found b.records b.words sets

-- what the steps leave in the buffers and the set table
pub record RanBeside {K : Type 0} (o : Ops K) (m : Meaning K) (steps : List (Step K)) (old new : Buffers K) (sets sets' : List ℕ) : Type 0 where
  pub run : Ran o m steps (with_sets old sets) (with_sets new sets')
  pub second : new.second ≡ old.second
  pub third : new.third ≡ old.third

-- what the closings answer and leave after the steps; they leave the set table
abbrev pub Told : {K : Type 0} → Ops K → Meaning K → List (Step K) → Buffers K → Buffers K → List ℕ → List ℕ → Closings → Type 0
Told {K} o m steps old new sets sets' r = (ran : Buffers K) × RanBeside o m steps old ran sets sets' × AllClosed o (reckoned o m steps) ran new r

-- what the steps leave in the records and work words, and what sort makes of that
pub record SortedAfter {K : Type 0} (o : Ops K) (m : Meaning K) (steps : List (Step K)) (t : Lengths) (old new : List PackageRecord) (words words' : List ℕ) : Type 0 where
  pub mid : List PackageRecord
  pub free : List ℕ
  pub ran : Files o m t steps old mid words free
  pub sorted : Filed (reckoned o m steps) (not (lacks (reckoned o m steps) t.records t.words)) mid new free words'

module _ {K : Type 0} (o : Ops K) where
  -- told from that first meaning on, or refused with its number, and then every buffer is as it was
  abbrev pub ToldFrom : Result (Meaning K) ℕ → List (Step K) → Buffers K → Buffers K → List ℕ → List ℕ → Result Closings Refusal → Type 0
  ToldFrom (Ok m) steps old new sets sets' (Ok r) = Told o m steps old new sets sets' r
  ToldFrom (Ok m) steps old new sets sets' (Err e) = ⊥
  ToldFrom (Err k) steps old new sets sets' (Ok r) = ⊥
  ToldFrom (Err k) steps old new sets sets' (Err e) = (number e ≡ k) × (new ≡ old) × (sets' ≡ sets)

  -- what is asked after the calls has the promise from that first meaning on, or is refused with its number, and then
  -- the memory is as it was
  unfoldable pub AskedFrom : Result (Meaning K) ℕ → List (Step K) → Step K → Memory K → Memory K → Result Outcome ℕ → Type 0
  AskedFrom (Ok m) calls question old new a = (mid : Memory K) × Ran o m calls old mid × Promise o m calls question mid new a
  AskedFrom (Err k) calls question old new a = (a ≡ Err k) × (new ≡ old)

  -- the label of a pair after the steps, from that first meaning on
  abbrev pub label_from : Result (Meaning K) ℕ → List (Step K) → ℕ → ℕ → ℕ → Result K ℕ
  label_from first steps cells from to = then first (λ m. label_answer o (reckoned o m steps) cells from to)

  -- what that leaves of the label table
  abbrev pub label_leaves : Result (Meaning K) ℕ → List (Step K) → Lengths → ℕ → ℕ → List K → List K
  label_leaves (Ok m) steps t from to old = closing_leaves o (reckoned o m steps) (label_answer o (reckoned o m steps) t.table from to) (tables o m t steps old)
  label_leaves (Err k) steps t from to old = old

  -- the number of groups after the steps
  abbrev pub count_from : Result (Meaning K) ℕ → List (Step K) → ℕ → ℕ → Result ℕ ℕ
  count_from first steps records words = then first (λ m. sort_answer (reckoned o m steps) records words)

  -- the records name the groups that there are after the steps
  abbrev pub Named : Result (Meaning K) ℕ → List (Step K) → List PackageRecord → Type 0
  Named (Ok m) steps new = map (λ r. r.group) (take (reckoned o m steps).n new) ≡ groups (in_force (reckoned o m steps)) (reckoned o m steps).n
  Named (Err k) steps new = ⊥

  -- what the steps leave in the label table
  abbrev pub tables_from : Result (Meaning K) ℕ → List (Step K) → Lengths → List K → List K
  tables_from (Ok m) steps t old = tables o m t steps old
  tables_from (Err k) steps t old = old

  -- in the set table
  abbrev pub sets_from : Result (Meaning K) ℕ → List (Step K) → Lengths → List ℕ → List ℕ
  sets_from (Ok m) steps t old = sets_left o m t steps old
  sets_from (Err k) steps t old = old

  -- and in the records and work words
  abbrev pub FilesFrom : Result (Meaning K) ℕ → List (Step K) → Lengths → List PackageRecord → List PackageRecord → List ℕ → List ℕ → Type 0
  FilesFrom (Ok m) steps t old new words words' = Files o m t steps old new words words'
  FilesFrom (Err k) steps t old new words words' = (new ≡ old) × (words' ≡ words)

  -- and what sort makes of that
  abbrev pub SortedFrom : Result (Meaning K) ℕ → List (Step K) → Lengths → List PackageRecord → List PackageRecord → List ℕ → List ℕ → Type 0
  SortedFrom (Ok m) steps t old new words words' = SortedAfter o m steps t old new words words'
  SortedFrom (Err k) steps t old new words words' = (new ≡ old) × (words' ≡ words)

  -- do the steps write to the spare tables?
  abbrev pub spares_from : Result (Meaning K) ℕ → List (Step K) → Lengths → Bool
  spares_from (Ok m) steps t = some_spares_used o m t steps
  spares_from (Err k) steps t = false

-- a question about what is reckoned from a making and the calls
abbrev pub asked : {K A : Type 0} → Ops K → (ℕ → Option K) → Making → List (Call K) → (Meaning K → A) → Result A ℕ
asked o named making calls question = on_ok (λ m. question (reckon o m calls)) (first_meaning o named making)
