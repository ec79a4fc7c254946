-- What is asked alone, with no calls before and no spare tables.
use Rattle.std.proofs.Common.{◌≡◌, ℕ, List, [], ◌∷◌, length, Result, refl, ap, subst, arith}
use Rattle.labels.specs.Algebra.{Ops}
use Rattle.catalogue.specs.Meanings.{Meaning}
use Rattle.graphs.specs.declared.record.PackageRecord.{PackageRecord}
use Rattle.runs.specs.Steps.{Step}
use Rattle.runs.specs.declared.step.Outcome.{Outcome}
use Rattle.runs.specs.Runs.{Memory, memory}
use Rattle.runs.specs.Promises.{Promise, Asked}

module _ {K : Type 0} where
  empty : (xs : List K) → length xs ≡ 0 → xs ≡ []
  empty [] e = refl
  empty (x ∷ xs) e = absurd (omega (arith, e))

  same : (a b : Memory K) → a.table ≡ b.table → a.changed ≡ b.changed → a.found ≡ b.found → a.records ≡ b.records → a.words ≡ b.words → a.sets ≡ b.sets → a ≡ b
  same a b t c f r w s = λ i. record { table = t i; changed = c i; found = f i; records = r i; words = w i; sets = s i }

  module _ (o : Ops K) (m : Meaning K) (c : Step K) (table : List K) (records : List PackageRecord) (words sets : List ℕ) (new : Memory K) (a : Result Outcome ℕ) where
    abbrev lent : Memory K
    lent = memory table [] [] records words sets

    pub promised_alone : Asked o m [] c lent new a → Promise o m [] c lent (memory new.table [] [] new.records new.words new.sets) a
    unfolding Asked
    promised_alone h =
        let one = h m [] refl in
        let spares = one.1.spares refl in
        let p : Promise o m [] c lent new a = subst (λ t. Promise o m [] c t new a) (same one.0 lent one.1.table spares.0 spares.1 one.1.files.0 one.1.files.1 one.1.sets) one.2 in
        let long = p.reckoned_from_the_making_and_the_calls.as_long in
        subst (λ t. Promise o m [] c lent t a)
        (same new (memory new.table [] [] new.records new.words new.sets) refl (empty new.changed (ap (λ t. t.changed) long)) (empty new.found (ap (λ t. t.found) long)) refl refl refl)
        p
