-- Questions after a list of calls, and two that are compared.
use Rattle.std.proofs.Common.{◌≡◌, ℕ, List, [], ◌∷◌, ◌++◌, Result, sym, refl, ap, ◌∙◌, subst}
use Rattle.labels.specs.Algebra.{Ops, Laws, Absorbs}
use Rattle.catalogue.specs.Meanings.{Meaning, Sound}
use Rattle.runs.specs.Steps.{Step}
use Rattle.runs.specs.declared.step.Outcome.{Outcome}
use Rattle.graphs.specs.declared.record.PackageRecord.{PackageRecord}
use Rattle.runs.specs.Runs.{Memory, memory, lengths, sizes}
use Rattle.runs.specs.Promises.{reckoned, Called, Followed, Told, Asked, Compared}
use Rattle.runs.proofs.Stepping.{reckoned_over}
use Rattle.runs.proofs.Promised.{promised}

module _ {K : Type 0} (o : Ops K) where
  pub told : (laws : Laws o) (absorbs : Absorbs o) (m : Meaning K) (question : Step K) (old new : Memory K) (a : Result Outcome ℕ)
      → Sound o m → Called o m question old new a → Told o m question old new a
  unfolding Told
  told laws absorbs m question old new a sound called first calls is =
      promised o laws absorbs first calls question old new a (subst (Sound o) is sound) (subst (λ k. Called o k question old new a) is called)

  pub reckoned_to : (m now last : Meaning K) (calls : List (Step K)) (c : Step K) (old mid : Memory K)
      → Followed o m calls now old mid → last ≡ reckoned o now (c ∷ []) → last ≡ reckoned o m (calls ++ (c ∷ []))
  unfolding Followed
  reckoned_to m now last calls c old mid ran is = is ∙ ap (λ k. reckoned o k (c ∷ [])) ran.0 ∙ sym (reckoned_over o m calls (c ∷ []))

  -- what is told after a run
  pub asked : (m now : Meaning K) (calls : List (Step K)) (question : Step K) (old mid new : Memory K) (a : Result Outcome ℕ)
      → Followed o m calls now old mid → Told o now question mid new a → Asked o m calls question old new a
  unfolding Followed Told Asked
  asked m now calls question old mid new a ran tells first before from =
      (mid, ran.1, tells first (before ++ calls) (ran.0 ∙ ap (λ k. reckoned o k calls) from ∙ sym (reckoned_over o first before calls)))

  pub compared : (m m' : Meaning K) (calls calls' : List (Step K)) (question question' : Step K) (a a' : Result Outcome ℕ)
      (table changed found : List K) (records : List PackageRecord) (words sets : List ℕ) (new : Memory K)
      (table' changed' found' : List K) (records' : List PackageRecord) (words' sets' : List ℕ) (new' : Memory K)
      → Asked o m calls question (memory table changed found records words sets) new a
      → Asked o m' calls' question' (memory table' changed' found' records' words' sets') new' a'
      → Compared o (reckoned o m calls) (reckoned o m' calls') question question'
      (lengths table changed found records words sets) (lengths table' changed' found' records' words' sets') a a' new new'
  unfolding Asked Compared
  compared m m' calls calls' question question' a a' table changed found records words sets new table' changed' found' records' words' sets' new' asked asked' =
      let one = asked m [] refl in
      let two = asked' m' [] refl in
      subst (λ t. Compared o (reckoned o m calls) (reckoned o m' calls') question question' t (lengths table' changed' found' records' words' sets') a a' new new') one.1.as_long
      (subst (λ t. Compared o (reckoned o m calls) (reckoned o m' calls') question question' (sizes one.0) t a a' new new') two.1.as_long
      (one.2.order_does_not_matter m' calls' question' two.0 new' a' two.2.reckoned_from_the_making_and_the_calls))
