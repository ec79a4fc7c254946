-- The closings of one catalogue, beside each other.
use Rattle.std.specs.Prelude.{◌≡◌, ℕ, false, not, List, [], ◌∷◌, length, is_ok}
use Rattle.labels.specs.Algebra.{Ops}
use Rattle.catalogue.specs.Refusals.{answer}
use Rattle.catalogue.specs.Meanings.{Meaning}
use Rattle.tables.specs.Closings.{rounds_answer, elimination_answer, closing_leaves, Agree}
use Rattle.graphs.specs.Answers.{order_lacks, order_answer}
use Rattle.graphs.specs.declared.record.PackageRecord.{PackageRecord}
use Rattle.runs.specs.Runs.{Filed}
use Rattle.runs.specs.declared.agreement.Closings.{Closings}

-- the buffers that a run and the closings after it are lent
pub record Buffers (K : Type 0) : Type 0 where
  -- of a run and the closing by rounds
  pub table : List K
  pub changed : List K
  pub found : List K
  -- of the closing by elimination, and of that by order
  pub second : List K
  pub third : List K
  -- of a run and the closing by order
  pub records : List PackageRecord
  pub words : List ℕ

abbrev pub lent : {K : Type 0} → List K → List K → List K → List K → List K → List PackageRecord → List ℕ → Buffers K
lent table changed found second third records words =
    record { table = table; changed = changed; found = found; second = second; third = third; records = records; words = words }

-- what the closings answer, and what they leave; those that accept leave the same labels
pub record AllClosed {K : Type 0} (o : Ops K) (m : Meaning K) (old new : Buffers K) (r : Closings) : Type 0 where
  pub rounds : answer r.by_rounds ≡ rounds_answer o m (length old.table) (length old.changed) (length old.found)
  pub elimination : answer r.by_elimination ≡ elimination_answer o m (length old.second)
  pub order : answer r.by_order ≡ order_answer m (length old.third) (length old.records) (length old.words)
  pub table : new.table ≡ closing_leaves o m (answer r.by_rounds) old.table
  pub second : new.second ≡ closing_leaves o m (answer r.by_elimination) old.second
  pub third : new.third ≡ closing_leaves o m (answer r.by_order) old.third
  pub spares : is_ok (answer r.by_rounds) ≡ false → (new.changed ≡ old.changed) × (new.found ≡ old.found)
  pub files : Filed m (not (order_lacks m (length old.third) (length old.records) (length old.words))) old.records new.records old.words new.words
  pub agree : Agree m.n ((is_ok (answer r.by_rounds), new.table) ∷ (is_ok (answer r.by_elimination), new.second) ∷ (is_ok (answer r.by_order), new.third) ∷ [])
