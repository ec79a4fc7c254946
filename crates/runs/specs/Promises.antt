-- The promise over whole runs: what holds of a question that is put to a catalogue after any list of calls.
use Rattle.std.specs.Prelude.{◌≡◌, ℕ, ◌*◌, ◌<◌, ◌≤◌, min, Bool, true, false, ◌||◌, ◌⊎◌, List, [], ◌++◌, map, take, is_ok, Ok, Err, Result}
use Rattle.labels.specs.Algebra.{Ops}
use Rattle.paths.specs.Chains.{Mem, L}
use Rattle.paths.specs.Tables.{cell}
use Rattle.paths.specs.Groups.{Loop}
use Rattle.catalogue.specs.Meanings.{Meaning, in_force}
use Rattle.catalogue.specs.Runs.{reckon}
use Rattle.tables.specs.Closings.{short}
use Rattle.graphs.specs.Answers.{lacks, order_lacks}
use Rattle.plans.specs.declared.counts.PlanCounts.{PlanCounts}
use Rattle.plans.specs.Answers.{plan_lacks}
use Rattle.plans.specs.Laws.{Alike}
use Rattle.plans.specs.LeastWaits.{LeastWaits}
use Rattle.plans.specs.Alike.{AlikeMeanings}
use Rattle.runs.specs.Steps.{Step}
use Rattle.runs.specs.declared.step.StepFor.TheVariants.{Alter, Rounds, Eliminate, Order, Sort, Plan}
use Rattle.runs.specs.declared.step.Outcome.{Outcome}
use Rattle.runs.specs.declared.step.Outcome.TheVariants as outcomes
use Rattle.runs.specs.Runs.{Memory, Lengths, sizes, alterations, answered, tabled, set_left, spares_used, FiledBy, tables, sets_left, some_spares_used, Files}

-- what is asked for
pub data Kind : Type 0 where
  alteration : Kind
  rounds : Kind
  elimination : Kind
  order : Kind
  sort : Kind
  plan : Kind

module _ {K : Type 0} where
  abbrev pub kind : Step K → Kind
  kind (Alter c) = alteration
  kind (Rounds cells) = rounds
  kind (Eliminate cells) = elimination
  kind (Order cells room) = order
  kind (Sort room) = sort
  kind (Plan cells room changed) = plan

  -- the changed packages of a plan that is asked for
  abbrev pub changed_of : Step K → List ℕ
  changed_of (Alter c) = []
  changed_of (Rounds cells) = []
  changed_of (Eliminate cells) = []
  changed_of (Order cells room) = []
  changed_of (Sort room) = []
  changed_of (Plan cells room changed) = changed.now

  -- are the buffers too short for what is asked?
  abbrev pub falls_short : Meaning K → Lengths → Step K → Bool
  falls_short m t (Alter c) = false
  falls_short m t (Rounds cells) = short m.n (min cells t.table) || (short m.n (min cells t.changed) || short m.n (min cells t.found))
  falls_short m t (Eliminate cells) = short m.n (min cells t.table)
  falls_short m t (Order cells room) = order_lacks m (min cells t.table) (min room.records t.records) (min room.words t.words)
  falls_short m t (Sort room) = lacks m (min room.records t.records) (min room.words t.words)
  falls_short m t (Plan cells room changed) = plan_lacks m (min cells t.sets) (min room.records t.records) (min room.words t.words)

-- the closings; what is asked that is no alteration; what fills the packages' records where the buffers suffice
abbrev pub closes : Kind → Bool
closes alteration = false
closes rounds = true
closes elimination = true
closes order = true
closes sort = false
closes plan = false

abbrev pub asks : Kind → Bool
asks alteration = false
asks rounds = true
asks elimination = true
asks order = true
asks sort = true
asks plan = true

module _ {K : Type 0} (o : Ops K) where
  -- what the calls leave of a meaning
  abbrev pub reckoned : Meaning K → List (Step K) → Meaning K
  reckoned m calls = reckon o m (alterations calls)

  -- what a call answers, by the definitions on the meaning and its arguments, and leaves of the memory
  pub record Called (m : Meaning K) (c : Step K) (old new : Memory K) (a : Result Outcome ℕ) : Type 0 where
    pub answers : a ≡ answered o m (sizes old) c
    pub table : new.table ≡ tabled o m (sizes old) c old.table
    pub sets : new.sets ≡ set_left o m (sizes old) c old.sets
    pub files : FiledBy m (sizes old) c old.records new.records old.words new.words
    pub spares : spares_used o m (sizes old) c ≡ false → (new.changed ≡ old.changed) × (new.found ≡ old.found)
    pub as_long : sizes new ≡ sizes old

  -- what a list of calls leaves of the memory
  pub record Ran (m : Meaning K) (calls : List (Step K)) (old new : Memory K) : Type 0 where
    pub table : new.table ≡ tables o m (sizes old) calls old.table
    pub sets : new.sets ≡ sets_left o m (sizes old) calls old.sets
    pub files : Files o m (sizes old) calls old.records new.records old.words new.words
    pub spares : some_spares_used o m (sizes old) calls ≡ false → (new.changed ≡ old.changed) × (new.found ≡ old.found)
    pub as_long : sizes new ≡ sizes old

  -- why a question is refused whose buffers suffice
  pub record Causes (m : Meaning K) (c : Step K) (a : Result Outcome ℕ) : Type 0 where
    -- by rounds, by elimination and sort never are
    pub some : is_ok a ≡ false → (kind c ≡ order) ⊎ (kind c ≡ plan)
    -- by order for a chain that leads back to its start
    pub loops : kind c ≡ order → is_ok a ≡ false → (a ≡ Err 14) × Loop (in_force m)
    -- plan for a changed number that is no package, or whose package is held
    pub changes : kind c ≡ plan → is_ok a ≡ false → (p : ℕ) × Mem p (changed_of c) × (((a ≡ Err 6) × (m.n ≤ p)) ⊎ ((a ≡ Err 15) × (m.held p ≡ true)))

  pub record ClosingsAgree (m : Meaning K) (c : Step K) (old new : Memory K) (a : Result Outcome ℕ) : Type 0 where
    -- every closing that accepts leaves the same table
    pub same : closes (kind c) ≡ true → is_ok a ≡ true
        → (c' : Step K) (old' new' : Memory K) (a' : Result Outcome ℕ) → Called m c' old' new' a' → closes (kind c') ≡ true → is_ok a' ≡ true
        → take (m.n * m.n) new.table ≡ take (m.n * m.n) new'.table
    -- each label is the join over the chains of 1 to k arcs, for every k from n upward
    pub joins : closes (kind c) ≡ true → is_ok a ≡ true → (k : ℕ) → m.n ≤ k
        → (i j : ℕ) → i < m.n → j < m.n → cell o m.n new.table i j ≡ L o (in_force m) k i j
    -- with long enough buffers, by order refuses exactly when a chain leads back to its start
    pub refuses : kind c ≡ order → falls_short m (sizes old) c ≡ false → is_ok a ≡ false → Loop (in_force m)
    pub refused : kind c ≡ order → falls_short m (sizes old) c ≡ false → Loop (in_force m) → is_ok a ≡ false

  -- two answers, and what was left of the memory, are equal, ranks aside
  pub record SameOutcome (n : ℕ) (k : Kind) (a a' : Result Outcome ℕ) (new new' : Memory K) : Type 0 where
    -- both are refused, or both are taken
    pub taken : is_ok a ≡ is_ok a'
    -- with equal rounds, numbers of groups, and counts
    pub told : is_ok a ≡ true → a ≡ a'
    pub tables : closes k ≡ true → is_ok a ≡ true → take (n * n) new.table ≡ take (n * n) new'.table
    pub plans : k ≡ plan → is_ok a ≡ true → take (n * n) new.sets ≡ take (n * n) new'.sets
    pub groups : (k ≡ order) ⊎ ((k ≡ sort) ⊎ ((k ≡ plan) × (is_ok a ≡ true))) → map (λ r. r.group) (take n new.records) ≡ map (λ r. r.group) (take n new'.records)
    pub waves : (k ≡ order) ⊎ ((k ≡ sort) ⊎ ((k ≡ plan) × (is_ok a ≡ true))) → map (λ r. r.wave) (take n new.records) ≡ map (λ r. r.wave) (take n new'.records)

  -- two that are asked the same, alike but for order, and are lent enough, tell the same and leave the same, and each is
  -- refused for a cause alone
  unfoldable pub Compared : Meaning K → Meaning K → Step K → Step K → Lengths → Lengths → Result Outcome ℕ → Result Outcome ℕ → Memory K → Memory K → Type 0
  Compared m m' c c' t t' a a' new new' =
      AlikeMeanings m m' → asks (kind c) ≡ true → kind c ≡ kind c' → Alike (changed_of c) (changed_of c')
      → falls_short m t c ≡ false → falls_short m' t' c' ≡ false → SameOutcome m.n (kind c) a a' new new' × Causes m c a × Causes m' c' a'

  -- A catalogue that means `first` once made is called with `calls`, of any length and order, refused ones included;
  -- then `question` is asked, which answers `a` and makes `new` of the memory `old` that the calls left.
  pub record Promise (first : Meaning K) (calls : List (Step K)) (question : Step K) (old new : Memory K) (a : Result Outcome ℕ) : Type 0 where
    -- *reckoned from the making and the calls*: all of the following holds of the packages, held packages and arcs in
    -- force that are reckoned from the first meaning and the calls alone
    pub reckoned_from_the_making_and_the_calls : Called (reckoned first calls) question old new a
    -- *closings agree*
    pub closings_agree : ClosingsAgree (reckoned first calls) question old new a
    -- *waits are least*
    pub waits_are_least : (told : PlanCounts) → kind question ≡ plan → a ≡ Ok (outcomes.Planned told)
        → LeastWaits (in_force (reckoned first calls)) (reckoned first calls).n (changed_of question) new.sets new.records told
    -- *order does not matter*: whatever else is made, called, lent and asked, that is alike but for order
    pub order_does_not_matter : (first' : Meaning K) (calls' : List (Step K)) (question' : Step K) (old' new' : Memory K) (a' : Result Outcome ℕ)
        → Called (reckoned first' calls') question' old' new' a'
        → Compared (reckoned first calls) (reckoned first' calls') question question' (sizes old) (sizes old') a a' new new'
    -- long enough buffers are refused for a cause alone
    pub refused_for_a_cause : falls_short (reckoned first calls) (sizes old) question ≡ false → asks (kind question) ≡ true → Causes (reckoned first calls) question a

  -- what a list of calls leaves of a catalogue that means m, and of the memory
  unfoldable pub Followed : Meaning K → List (Step K) → Meaning K → Memory K → Memory K → Type 0
  Followed m calls now old new = (now ≡ reckoned m calls) × Ran m calls old new

  -- what a catalogue that means m is asked: m is reckoned from any first meaning and calls
  unfoldable pub Told : Meaning K → Step K → Memory K → Memory K → Result Outcome ℕ → Type 0
  Told m question old new a =
      (first : Meaning K) (calls : List (Step K)) → m ≡ reckoned first calls → Promise first calls question old new a

  -- what a catalogue that means m is asked after calls: its first meaning, and the calls before, are any that m is
  -- reckoned from
  unfoldable pub Asked : Meaning K → List (Step K) → Step K → Memory K → Memory K → Result Outcome ℕ → Type 0
  Asked m calls question old new a =
      (first : Meaning K) (before : List (Step K)) → m ≡ reckoned first before
      → (mid : Memory K) × Ran m calls old mid × Promise first (before ++ calls) question mid new a
