-- What is true of plans.
use Rattle.std.specs.Prelude.{◌≡◌, ℕ, ◌+◌, ◌<◌, ◌≤◌, Bool, true, ◌⊎◌, List}
use mathlib.Core.List.{Permᴰ}
use Rattle.paths.specs.declared.arc.Arc.{Arc}
use Rattle.paths.specs.Chains.{Mem}
use Rattle.paths.specs.Groups.{group, groups, Chained, Grouped}
use Rattle.plans.specs.Plans.{planned, job, depends, in_set, wait, wave, wave_of, bytes, arcs_inside, counts}
use Rattle.plans.specs.Relations.{Connects, Same, Numbers, Waves}

-- lists are alike as sets
abbrev pub Alike : List ℕ → List ℕ → Type 0
Alike xs ys = ((x : ℕ) → Mem x xs → Mem x ys) × ((x : ℕ) → Mem x ys → Mem x xs)

-- the pairs of jobs with an arc between them, those of whom the first waits for the second, and those that pass a test
abbrev pub Depends : {K : Type 0} → List (Arc K) → ℕ → List ℕ → ℕ → ℕ → Type 0
Depends arcs n changed a b = depends arcs n changed a b ≡ true

abbrev pub Waits : {K : Type 0} → List (Arc K) → ℕ → List ℕ → ℕ → ℕ → Type 0
Waits arcs n changed a b = wait arcs n changed a b ≡ true

abbrev pub Passes : (ℕ → ℕ → Bool) → ℕ → ℕ → Type 0
Passes test a b = test a b ≡ true

-- the plans of two lists of arcs and of changed packages are the same
pub record SamePlan {K : Type 0} (arcs : List (Arc K)) (n : ℕ) (changed : List ℕ) (others : List (Arc K)) (again : List ℕ) : Type 0 where
  pub bytes : bytes arcs n changed ≡ bytes others n again
  pub waves : (p : ℕ) → wave_of arcs n changed p ≡ wave_of others n again p
  pub counts : counts arcs n changed ≡ counts others n again

pub record PlanLaws {K : Type 0} (arcs : List (Arc K)) (n : ℕ) (changed : List ℕ) : Type 0 where
  -- a package is in the plan exactly when it is changed or a chain leads from it to a changed one
  pub planned_is : (p : ℕ) → planned arcs n changed p ≡ true → (c : ℕ) × Mem c changed × ((p ≡ c) ⊎ Chained arcs p c)
  pub planned_all : (p c : ℕ) → Mem c changed → (p ≡ c) ⊎ Chained arcs p c → planned arcs n changed p ≡ true
  -- a group's name is the lowest of the packages that are the same or that chains lead to and from
  pub grouped : Grouped arcs n (groups arcs n)
  -- a job is a group with a package in the plan
  pub job_is : (a : ℕ) → job arcs n changed a ≡ true → (p : ℕ) × (p < n) × (planned arcs n changed p ≡ true) × (group arcs n p ≡ a)
  pub job_all : (p : ℕ) → p < n → planned arcs n changed p ≡ true → job arcs n changed (group arcs n p) ≡ true
  -- a job's set is what the arcs between jobs connect it to
  pub set_is : (a b : ℕ) → in_set arcs n changed a b ≡ true → Connects (Depends arcs n changed) a b
  pub set_all : (a b : ℕ) → Connects (Depends arcs n changed) a b → in_set arcs n changed a b ≡ true
  -- the waits connect the same pairs of jobs as the arcs between jobs
  pub same : Same (Depends arcs n changed) (Waits arcs n changed)
  -- every other set of pairs, given by its test, that connects the same contains each wait
  pub least : (test : ℕ → ℕ → Bool) → Same (Depends arcs n changed) (Passes test) → (a b : ℕ) → Waits arcs n changed a b → Passes test a b
  -- a job's wave is 0 without an arc to another job, else one more than the largest among their targets'; no numbering
  -- that puts each job above those that it depends on is lower anywhere
  pub waves : Waves (Depends arcs n changed) (wave arcs n changed)
  pub lowest : (num : ℕ → ℕ) → Numbers (Depends arcs n changed) num → (a : ℕ) → wave arcs n changed a ≤ num a
  -- each arc in the plan is merged, skipped or inner
  pub add_up : arcs_inside arcs n changed ≡ (counts arcs n changed).merged + (counts arcs n changed).skipped + (counts arcs n changed).inner
  -- neither the order of the arcs matters, nor that of the changed packages and how often each is listed
  pub any_order : (others : List (Arc K)) (again : List ℕ) → Permᴰ arcs others → Alike changed again → SamePlan arcs n changed others again
