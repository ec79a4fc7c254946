-- What is told of the meaning that a run leaves is told of the reckoned one.
use Rattle.std.proofs.Common.{◌≡◌, ℕ, true, false, not, List, [], length, is_ok, Ok, Err, Result, sym, refl, ap, ◌∙◌, subst, ap₂, true≢false}
use Rattle.labels.specs.Algebra.{Ops}
use Rattle.catalogue.specs.Refusals.{answer}
use Rattle.runs.specs.declared.agreement.Closings.{Closings}
use Rattle.runs.specs.Steps.{Step}
use Rattle.runs.specs.declared.step.Outcome.{Outcome}
use Rattle.catalogue.specs.Meanings.{Meaning, in_force}
use Rattle.graphs.specs.Records.{Sorted}
use Rattle.graphs.specs.declared.record.PackageRecord.{PackageRecord}
use Rattle.runs.proofs.Filing.{taken, filed_whole}
use Rattle.runs.specs.Runs.{Memory, Lengths, lengths, sizes, tables, sets_left, some_spares_used, Filed, Files}
use Rattle.runs.specs.Promises.{reckoned, Asked}
use Rattle.graphs.specs.Answers.{lacks, sort_answer}
use Rattle.tables.specs.Closings.{label_answer}
use Rattle.runs.specs.AllClosings.{Buffers, AllClosed}
use Rattle.runs.proofs.Stepping.{same_sizes}
use Rattle.worked.specs.Asked.{with_sets, Told, AskedFrom, Named, SortedAfter, SortedFrom, count_from}

module _ {K : Type 0} (o : Ops K) (now m : Meaning K) (steps : List (Step K)) (is : now ≡ reckoned o m steps) where
  pub told_after : (r : Closings) (old mid new : Buffers K) (sets free : List ℕ)
      → length mid.table ≡ length old.table → length mid.changed ≡ length old.changed → length mid.found ≡ length old.found
      → length mid.records ≡ length old.records → length mid.words ≡ length old.words → length free ≡ length sets
      → mid.second ≡ old.second → mid.third ≡ old.third
      → mid.table ≡ tables o m (sizes (with_sets old sets)) steps old.table
      → (some_spares_used o m (sizes (with_sets old sets)) steps ≡ false → (mid.changed ≡ old.changed) × (mid.found ≡ old.found))
      → Files o m (sizes (with_sets old sets)) steps old.records mid.records old.words mid.words
      → free ≡ sets_left o m (sizes (with_sets old sets)) steps sets
      → AllClosed o now mid new r → Told o m steps old new sets free r
  told_after r old mid new sets free p q s v w x u z left spares files bytes closed = (
    mid,
    record {
      run = record {
        table = left;
        sets = bytes;
        files = files;
        spares = spares;
        as_long = same_sizes (with_sets mid free) (with_sets old sets) p q s v w x;
      };
      second = u;
      third = z;
    },
    subst (λ k. AllClosed o k mid new r) is closed,
  )

  pub label_after_is : (answer : Result K ℕ) (a a' from to : ℕ) → a ≡ a' → answer ≡ label_answer o now a from to → answer ≡ label_answer o (reckoned o m steps) a' from to
  label_after_is answer a a' from to p e = e ∙ ap₂ (λ k x. label_answer o k x from to) is p

  pub sorted_after : (told : Result ℕ ℕ) (table changed found : List K) (old mid new : List PackageRecord) (words free words' sets : List ℕ)
      → length mid ≡ length old → length free ≡ length words → Files o m (lengths table changed found old words sets) steps old mid words free
      → told ≡ sort_answer now (length mid) (length free)
      → (is_ok told ≡ true → Sorted (in_force now) now.n mid new)
      → (is_ok told ≡ false → (new ≡ mid) × (words' ≡ free))
      → SortedAfter o m steps (lengths table changed found old words sets) old new words words'
  sorted_after told table changed found old mid new words free words' sets p q files is_told sorts keeps =
      let lacking = lacks (reckoned o m steps) (length old) (length words) in
      let e = is_told ∙ ap₂ (sort_answer now) p q ∙ ap (λ k. sort_answer k (length old) (length words)) is in
      let ok = taken lacking _ told e in
      let last = filed_whole now lacking mid new free words' (λ z. sorts (ok ∙ ap not z)) (λ z. keeps (ok ∙ ap not z)) in
      record { mid = mid; free = free; ran = files; sorted = subst (λ k. Filed k (not lacking) mid new free words') is last }

-- what sort leaves names the groups
pub named_after : {K : Type 0} (o : Ops K) (first : Result (Meaning K) ℕ) (steps : List (Step K)) (answer : Result ℕ ℕ) (t : Lengths)
    (old new : List PackageRecord) (words words' : List ℕ)
    → answer ≡ count_from o first steps t.records t.words → SortedFrom o first steps t old new words words' → is_ok answer ≡ true → Named o first steps new
named_after o (Ok m) steps answer t old new words words' told left ok =
    (left.sorted.sorted (sym (taken (lacks (reckoned o m steps) t.records t.words) _ answer told) ∙ ok)).groups
named_after o (Err k) steps answer t old new words words' told left ok = true≢false (sym ok ∙ ap is_ok told)

-- what is asked of what was made, and of what was not
module _ {K : Type 0} (o : Ops K) (first : Result (Meaning K) ℕ) (calls : List (Step K)) (question : Step K) where
  pub asked_from : (m : Meaning K) (old new : Memory K) (a : Result Outcome ℕ) → Ok m ≡ first → Asked o m calls question old new a
      → AskedFrom o first calls question old new a
  unfolding Asked AskedFrom
  asked_from m old new a made asked = subst (λ r. AskedFrom o r calls question old new a) made (asked m [] refl)

  pub not_asked : (k : ℕ) (old : Memory K) → Err k ≡ first → AskedFrom o first calls question old old (Err k)
  unfolding AskedFrom
  not_asked k old refused = subst (λ r. AskedFrom o r calls question old old (Err k)) refused (refl, refl)
