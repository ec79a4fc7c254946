-- The promise holds over whole runs.
use Rattle.std.proofs.Common.{◌≡◌, ℕ, ◌+◌, ◌*◌, ◌≤◌, min, Bool, true, false, cond, not, ◌⊎◌, List, [], ◌∷◌, ◌++◌, map, length, take, drop, is_ok, Ok, Err, Result, refl, sym, ap, ◌∙◌, subst, ap₂, inl, inr, ⊎_elim, arith, true≢false, get_or-take}
use Rattle.std.specs.List.{range_with_len}
use Rattle.std.proofs.lemmas.Bool.{leb-true}
use Rattle.std.proofs.lemmas.List.{take_at}
use Rattle.std.proofs.lemmas.Nat.{mul-add-lt}
use Rattle.labels.specs.Algebra.{Ops, Laws, Absorbs}
use Rattle.paths.specs.Chains.{Mem, L}
use Rattle.paths.specs.Tables.{cell, rounds_made}
use Rattle.paths.specs.Groups.{group_count, chained, looped, Loop}
use Rattle.paths.proofs.Tests.{any_sound}
use Rattle.paths.proofs.Groups.{chained_sound}
use Rattle.paths.proofs.Written.{length_table, shows_table}
use Rattle.catalogue.specs.Meanings.{Meaning, Sound, in_force}
use Rattle.catalogue.specs.Calls.{outside}
use Rattle.catalogue.specs.Refusals.{on_ok, then}
use Rattle.tables.specs.Closings.{closing_leaves}
use Rattle.tables.proofs.Closed.{three_agree, closure_left}
use Rattle.graphs.specs.declared.record.PackageRecord.{PackageRecord}
use Rattle.graphs.specs.Records.{no_wave, Sorted}
use Rattle.graphs.proofs.Edges.{ends}
use Rattle.graphs.proofs.OrderAnswers.{loops_told}
use Rattle.plans.specs.declared.counts.PlanCounts.{PlanCounts}
use Rattle.plans.specs.Plans.{bytes, byte, counts, Planned}
use Rattle.plans.specs.Answers.{package_answer, changed_answer, plan_answer}
use Rattle.plans.specs.Laws.{Alike}
use Rattle.plans.specs.LeastWaits.{LeastWaits}
use Rattle.plans.specs.Alike.{AlikeMeanings}
use Rattle.plans.proofs.Alike.{labels_alike, rounds_alike, looped_alike, groups_alike, group_count_alike, plan_alike, changed_alike}
use Rattle.plans.proofs.Changed.{changed_known}
use Rattle.plans.proofs.LeastWaits.{least_waits}
use Rattle.runs.specs.Steps.{Step}
use Rattle.runs.specs.declared.step.StepFor.TheVariants.{Alter, Rounds, Eliminate, Order, Sort, Plan}
use Rattle.runs.specs.declared.step.Outcome.{Outcome}
use Rattle.runs.specs.declared.step.Outcome.TheVariants as outcomes
use Rattle.runs.specs.Runs.{Memory, sizes}
use Rattle.runs.specs.Promises.{Kind, alteration, rounds, elimination, order, sort, plan, kind, changed_of, falls_short, closes, asks, reckoned, Called, Causes, ClosingsAgree, Compared, Promise}
use Rattle.runs.proofs.Filing.{plan_taken}

module _ {A B : Type 0} (f : A → B) where
  ok_on : (r : Result A ℕ) → is_ok (on_ok f r) ≡ is_ok r
  ok_on (Ok v) = refl
  ok_on (Err k) = refl

-- plan's answer, once its buffers suffice, by that to the changed packages
module _ (x : PlanCounts) where
  abbrev given : Result (Unit {0}) ℕ → Result Outcome ℕ
  given r = on_ok (λ c. outcomes.Planned c) (then r (λ _. Ok x))

  ok_given : (r : Result (Unit {0}) ℕ) → is_ok (given r) ≡ is_ok r
  ok_given (Ok v) = refl
  ok_given (Err k) = refl

  given_ok : (r : Result (Unit {0}) ℕ) → is_ok r ≡ true → given r ≡ Ok (outcomes.Planned x)
  given_ok (Ok v) ok = refl
  given_ok (Err k) ok = absurd (true≢false (sym ok))

only_tt : (r : Result (Unit {0}) ℕ) → is_ok r ≡ true → r ≡ Ok tt
only_tt (Ok tt) ok = refl
only_tt (Err k) ok = absurd (true≢false (sym ok))

-- the first n records have the same groups and waves
abbrev SameRecords : ℕ → List PackageRecord → List PackageRecord → Type 0
SameRecords n new new' = (map (λ r. r.group) (take n new) ≡ map (λ r. r.group) (take n new')) × (map (λ r. r.wave) (take n new) ≡ map (λ r. r.wave) (take n new'))

-- the counts that are told
abbrev counts_in : PlanCounts → Result Outcome ℕ → PlanCounts
counts_in none (Ok (outcomes.Planned c)) = c
counts_in none a = none

module _ {K : Type 0} (m : Meaning K) where
  -- a changed number that is refused
  abbrev Bad : ℕ → Result (Unit {0}) ℕ → Type 0
  Bad p r = ((r ≡ Err 6) × (m.n ≤ p)) ⊎ ((r ≡ Err 15) × (m.held p ≡ true))

  bad : (p : ℕ) (r : Result (Unit {0}) ℕ) → package_answer m p ≡ r → is_ok r ≡ false → Bad p r
  bad p r is refused = go (outside m p) (m.held p) refl refl is
    where
      go : (b c : Bool) → outside m p ≡ b → m.held p ≡ c → cond {A = Result (Unit {0}) ℕ} b (Err 6) (cond c (Err 15) (Ok tt)) ≡ r → Bad p r
      go true c e f is = inl (sym is, leb-true m.n p e)
      go false true e f is = inr (sym is, f)
      go false false e f is = absurd (true≢false (ap is_ok is ∙ refused))

  refused_at : (xs : List ℕ) → is_ok (changed_answer m xs) ≡ false → (p : ℕ) × Mem p xs × Bad p (changed_answer m xs)
  refused_at [] refused = absurd (true≢false refused)
  refused_at (x ∷ xs) refused = go (package_answer m x) refl (refused_at xs) refused
    where
      go : (r : Result (Unit {0}) ℕ) → package_answer m x ≡ r
          → (is_ok (changed_answer m xs) ≡ false → (p : ℕ) × Mem p xs × Bad p (changed_answer m xs))
          → is_ok (then r (λ _. changed_answer m xs)) ≡ false → (p : ℕ) × Mem p (x ∷ xs) × Bad p (then r (λ _. changed_answer m xs))
      go (Ok v) is later refused = let t = later refused in (t.0, inr t.1, t.2)
      go (Err k) is later refused = (x, inl refl, bad x (Err k) is refused)

  -- what a plan leaves that is taken
  pub record PlanLeft (changed : List ℕ) (old new : Memory K) : Type 0 where
    pub sets : new.sets ≡ bytes (in_force m) m.n changed ++ drop (m.n * m.n) old.sets
    pub records : Planned (in_force m) m.n changed old.records new.records
    pub many : m.n ≤ length new.records

  pub bytes_left : (changed : List ℕ) (old new : Memory K) → PlanLeft changed old new → take (m.n * m.n) new.sets ≡ bytes (in_force m) m.n changed
  bytes_left changed old new p =
      ap (take (m.n * m.n)) p.sets
      ∙ take_at (bytes (in_force m) m.n changed) (drop (m.n * m.n) old.sets) (m.n * m.n) (length_table m.n (byte (in_force m) m.n changed))

  module _ (lacking : Bool) (old new : Memory K) (a : Result Outcome ℕ) where
    -- by what is asked for, what is left of the records, and by a plan of the set table
    abbrev pub Left : List ℕ → Kind → Type 0
    Left changed alteration = Unit {0}
    Left changed rounds = Unit {0}
    Left changed elimination = Unit {0}
    Left changed order = lacking ≡ false → Sorted (in_force m) m.n old.records new.records
    Left changed sort = lacking ≡ false → Sorted (in_force m) m.n old.records new.records
    Left changed plan = is_ok a ≡ true → (lacking ≡ false) × PlanLeft changed old new

abbrev ordered : Bool → Result Outcome ℕ
ordered looped = on_ok (λ _. outcomes.Ordered) (cond {A = Result (Unit {0}) ℕ} looped (Err 14) (Ok tt))

module _ {K : Type 0} (o : Ops K) where
  -- what is answered where the buffers suffice
  abbrev fully : Meaning K → List ℕ → Kind → Result Outcome ℕ
  fully m changed alteration = Ok outcomes.Altered
  fully m changed rounds = Ok (outcomes.Rounds (rounds_made o (in_force m) m.n))
  fully m changed elimination = Ok outcomes.Eliminated
  fully m changed order = ordered (looped (in_force m) m.n)
  fully m changed sort = Ok (outcomes.Sorted (group_count (in_force m) m.n))
  fully m changed plan = given (counts (in_force m) m.n changed) (changed_answer m changed)

  -- what any call answers and leaves, by what it asks for
  module _ (m : Meaning K) (old new : Memory K) (a : Result Outcome ℕ) where
    answers : (c : Step K) → Called o m c old new a → asks (kind c) ≡ true → falls_short m (sizes old) c ≡ false → a ≡ fully m (changed_of c) (kind c)
    answers (Alter c) called asked enough = absurd (true≢false (sym asked))
    answers (Rounds cells) called asked enough =
        called.answers ∙ ap (λ b. on_ok (λ made. outcomes.Rounds made) (cond b (Err 13) (Ok (rounds_made o (in_force m) m.n)))) enough
    answers (Eliminate cells) called asked enough =
        called.answers ∙ ap (λ b. on_ok (λ _. outcomes.Eliminated) (cond {A = Result (Unit {0}) ℕ} b (Err 13) (Ok tt))) enough
    answers (Order cells room) called asked enough =
        called.answers
        ∙ ap (λ b. on_ok (λ _. outcomes.Ordered) (cond {A = Result (Unit {0}) ℕ} b (Err 13) (cond (looped (in_force m) m.n) (Err 14) (Ok tt)))) enough
    answers (Sort room) called asked enough =
        called.answers ∙ ap (λ b. on_ok (λ groups. outcomes.Sorted groups) (cond b (Err 13) (Ok (group_count (in_force m) m.n)))) enough
    answers (Plan cells room changed) called asked enough =
        called.answers
        ∙ ap (λ b. on_ok (λ c. outcomes.Planned c) (cond b (Err 13) (then (changed_answer m changed.now) (λ _. Ok (counts (in_force m) m.n changed.now))))) enough

    table_left : (c : Step K) → Called o m c old new a → closes (kind c) ≡ true → new.table ≡ closing_leaves o m a old.table
    table_left (Alter c) called closing = absurd (true≢false (sym closing))
    table_left (Rounds cells) called closing = called.table ∙ ap (λ r. closing_leaves o m r old.table) (sym called.answers)
    table_left (Eliminate cells) called closing = called.table ∙ ap (λ r. closing_leaves o m r old.table) (sym called.answers)
    table_left (Order cells room) called closing = called.table ∙ ap (λ r. closing_leaves o m r old.table) (sym called.answers)
    table_left (Sort room) called closing = absurd (true≢false (sym closing))
    table_left (Plan cells room changed) called closing = absurd (true≢false (sym closing))

    pub left : (c : Step K) → Called o m c old new a → Left m (falls_short m (sizes old) c) old new a (changed_of c) (kind c)
    left (Alter c) called = tt
    left (Rounds cells) called = tt
    left (Eliminate cells) called = tt
    left (Order cells room) called = λ enough. called.files.sorted (ap not enough)
    left (Sort room) called = λ enough. called.files.sorted (ap not enough)
    left (Plan cells room changed) called = λ ok.
        let ask = plan_answer m changed.now (min cells (length old.sets)) (min room.records (length old.records)) (min room.words (length old.words)) in
        let taken : is_ok ask ≡ true = sym (ok_on (λ c. outcomes.Planned c) ask) ∙ sym (ap is_ok called.answers) ∙ ok in
        let enough = plan_taken m changed.now (min cells (length old.sets)) (min room.records (length old.records)) (min room.words (length old.words)) taken in (
          enough.0,
          record {
            sets =
                called.sets
                ∙ ap (λ b. cond b (bytes (in_force m) m.n changed.now ++ drop (m.n * m.n) old.sets) old.sets) (sym (ap is_ok called.answers) ∙ ok);
            records = called.files.planned taken;
            many = omega (arith, enough.2, ap (λ t. t.records) called.as_long);
          },
        )

  -- two closings that are taken leave the same
  two_agree : (m : Meaning K) (a a' : Result Outcome ℕ) (old old' new new' : List K) → new ≡ closing_leaves o m a old → new' ≡ closing_leaves o m a' old'
      → is_ok a ≡ true → is_ok a' ≡ true → take (m.n * m.n) new ≡ take (m.n * m.n) new'
  two_agree m a a' old old' new new' p q ok ok' =
      three_agree o m a a' a' old old' old' new new' new' p q q (is_ok a, new) (is_ok a', new') (inl refl) (inr (inl refl)) ok ok'

  -- why what is answered so is refused
  module _ (m : Meaning K) where
    loop_found : looped (in_force m) m.n ≡ true → Loop (in_force m)
    loop_found e =
        let r = any_sound (λ p. chained (in_force m) m.n p p) m.n e in
        (r.0, chained_sound (in_force m) m.n r.0 r.0 r.2)

    loop_cause : (a : Result Outcome ℕ) → a ≡ ordered (looped (in_force m) m.n) → is_ok a ≡ false → (a ≡ Err 14) × Loop (in_force m)
    loop_cause a is refused = go (looped (in_force m) m.n) refl is
      where
        go : (b : Bool) → looped (in_force m) m.n ≡ b → a ≡ ordered b → (a ≡ Err 14) × Loop (in_force m)
        go true told is = (is, loop_found told)
        go false told is = absurd (true≢false (sym (ap is_ok is) ∙ refused))

    some_cause : (changed : List ℕ) (k : Kind) → is_ok (fully m changed k) ≡ false → (k ≡ order) ⊎ (k ≡ plan)
    some_cause changed alteration refused = absurd (true≢false refused)
    some_cause changed rounds refused = absurd (true≢false refused)
    some_cause changed elimination refused = absurd (true≢false refused)
    some_cause changed order refused = inl refl
    some_cause changed sort refused = absurd (true≢false refused)
    some_cause changed plan refused = inr refl

    causes : (c : Step K) (a : Result Outcome ℕ) → a ≡ fully m (changed_of c) (kind c) → Causes o m c a
    causes c a is = record {
      some = λ refused. some_cause (changed_of c) (kind c) (sym (ap is_ok is) ∙ refused);
      loops = λ e. loop_cause a (is ∙ ap (fully m (changed_of c)) e);
      changes = λ e refused.
          let x = counts (in_force m) m.n (changed_of c) in
          let r = changed_answer m (changed_of c) in
          let as_given : a ≡ given x r = is ∙ ap (fully m (changed_of c)) e in
          let t = refused_at m (changed_of c) (sym (ap is_ok as_given ∙ ok_given x r) ∙ refused) in
          (t.0, t.1, ⊎_elim (λ k. inl (as_given ∙ ap (given x) k.0, k.1)) (λ k. inr (as_given ∙ ap (given x) k.0, k.1)) t.2);
    }

    loop_refused : Sound o m → (a : Result Outcome ℕ) → a ≡ ordered (looped (in_force m) m.n) → Loop (in_force m) → is_ok a ≡ false
    loop_refused sound a is loop = go (looped (in_force m) m.n) refl is
      where
        go : (b : Bool) → looped (in_force m) m.n ≡ b → a ≡ ordered b → is_ok a ≡ false
        go true told is = ap is_ok is
        go false told is = absurd ((loops_told o m sound).clear told loop)

  -- what two leave that are alike
  module _ (laws : Laws o) (m m' : Meaning K) (alike : AlikeMeanings m m') (sound : Sound o m) where
    ok_alike : (changed again : List ℕ) → Alike changed again → (k : Kind) → is_ok (fully m changed k) ≡ is_ok (fully m' again k)
    ok_alike changed again sets alteration = refl
    ok_alike changed again sets rounds = refl
    ok_alike changed again sets elimination = refl
    ok_alike changed again sets order = ap (λ b. is_ok (ordered b)) (looped_alike o m m' alike sound)
    ok_alike changed again sets sort = refl
    ok_alike changed again sets plan =
        ok_given (counts (in_force m) m.n changed) (changed_answer m changed)
        ∙ changed_alike o m m' alike changed again sets
        ∙ sym (ok_given (counts (in_force m') m'.n again) (changed_answer m' again))

    fully_alike : (changed again : List ℕ) → Alike changed again → (k : Kind) → is_ok (fully m changed k) ≡ true → fully m changed k ≡ fully m' again k
    fully_alike changed again sets alteration ok = refl
    fully_alike changed again sets rounds ok = ap (λ r. Ok (outcomes.Rounds r)) (rounds_alike o m m' alike laws)
    fully_alike changed again sets elimination ok = refl
    fully_alike changed again sets order ok = ap ordered (looped_alike o m m' alike sound)
    fully_alike changed again sets sort ok = ap (λ g. Ok (outcomes.Sorted g)) (group_count_alike o m m' alike sound)
    fully_alike changed again sets plan ok =
        let x = counts (in_force m) m.n changed in
        let y = counts (in_force m') m'.n again in
        let taken : is_ok (changed_answer m changed) ≡ true = sym (ok_given x (changed_answer m changed)) ∙ ok in
        given_ok x (changed_answer m changed) taken
        ∙ ap (λ c. Ok (outcomes.Planned c)) (plan_alike o m m' alike sound changed again sets).counts
        ∙ sym (given_ok y (changed_answer m' again) (sym (changed_alike o m m' alike changed again sets) ∙ taken))

    -- both sorted
    sorted_alike : (old new old' new' : List PackageRecord) → Sorted (in_force m) m.n old new → Sorted (in_force m') m'.n old' new' → SameRecords m.n new new'
    sorted_alike old new old' new' s s' = (
      s.groups ∙ groups_alike o m m' alike sound ∙ sym (ap (λ n. map (λ r. r.group) (take n new')) alike.n ∙ s'.groups),
      s.waves ∙ ap (λ n. map (λ _. no_wave) (range_with_len 0 n)) alike.n ∙ sym (ap (λ n. map (λ r. r.wave) (take n new')) alike.n ∙ s'.waves),
    )

    -- both planned
    module _ (changed again : List ℕ) (sets : Alike changed again) (old new old' new' : Memory K) (p : PlanLeft m changed old new) (p' : PlanLeft m' again old' new') where
      plan_sets : take (m.n * m.n) new.sets ≡ take (m.n * m.n) new'.sets
      plan_sets =
          bytes_left m changed old new p ∙ (plan_alike o m m' alike sound changed again sets).bytes
          ∙ sym (ap (λ n. take (n * n) new'.sets) alike.n ∙ bytes_left m' again old' new' p')

      plan_records : SameRecords m.n new.records new'.records
      plan_records = (
        p.records.groups ∙ groups_alike o m m' alike sound ∙ sym (ap (λ n. map (λ r. r.group) (take n new'.records)) alike.n ∙ p'.records.groups),
        p.records.waves ∙ (plan_alike o m m' alike sound changed again sets).waves
            ∙ sym (ap (λ n. map (λ r. r.wave) (take n new'.records)) alike.n ∙ p'.records.waves),
      )

    compared : (c c' : Step K) (old new old' new' : Memory K) (a a' : Result Outcome ℕ) → Called o m c old new a → Called o m' c' old' new' a'
        → Compared o m m' c c' (sizes old) (sizes old') a a' new new'
    unfolding Compared
    compared c c' old new old' new' a a' called called' alike' asked same sets enough enough' =
        let k = kind c in
        let is = answers m old new a c called asked enough in
        let there = answers m' old' new' a' c' called' (sym (ap asks same) ∙ asked) enough' in
        let is' : a' ≡ fully m' (changed_of c') k = there ∙ ap (fully m' (changed_of c')) (sym same) in
        let l : Left m false old new a (changed_of c) k = subst (λ b. Left m b old new a (changed_of c) k) enough (left m old new a c called) in
        let l' : Left m' false old' new' a' (changed_of c') k =
        subst (λ k. Left m' false old' new' a' (changed_of c') k) (sym same)
        (subst (λ b. Left m' b old' new' a' (changed_of c') (kind c')) enough' (left m' old' new' a' c' called')) in
        let taken : is_ok a ≡ is_ok a' = ap is_ok is ∙ ok_alike (changed_of c) (changed_of c') sets k ∙ sym (ap is_ok is') in
        let at : (k' : Kind) → k ≡ k' → Left m false old new a (changed_of c) k' × Left m' false old' new' a' (changed_of c') k' =
        λ k' e. (subst (Left m false old new a (changed_of c)) e l, subst (Left m' false old' new' a' (changed_of c')) e l') in
        let planned : k ≡ plan → is_ok a ≡ true → PlanLeft m (changed_of c) old new × PlanLeft m' (changed_of c') old' new' =
        λ e ok. (((at plan e).0 ok).1, ((at plan e).1 (sym taken ∙ ok)).1) in
        let records : (k ≡ order) ⊎ ((k ≡ sort) ⊎ ((k ≡ plan) × (is_ok a ≡ true))) → SameRecords m.n new.records new'.records =
        ⊎_elim
        (λ e. sorted_alike old.records new.records old'.records new'.records ((at order e).0 refl) ((at order e).1 refl))
        (⊎_elim
        (λ e. sorted_alike old.records new.records old'.records new'.records ((at sort e).0 refl) ((at sort e).1 refl))
        (λ h. let both = planned h.0 h.1 in plan_records (changed_of c) (changed_of c') sets old new old' new' both.0 both.1)) in (
          record {
            taken = taken;
            told = λ ok. is ∙ fully_alike (changed_of c) (changed_of c') sets k (sym (ap is_ok is) ∙ ok) ∙ sym is';
            tables = λ closing ok.
                two_agree m a a' old.table old'.table new.table new'.table
                (table_left m old new a c called closing)
                (table_left m' old' new' a' c' called' (sym (ap closes same) ∙ closing)
                ∙ ap₂ (λ cells n. cond (is_ok a') (cells ++ drop (n * n) old'.table) old'.table) (sym (labels_alike o m m' alike laws)) (sym alike.n))
                ok (sym taken ∙ ok);
            plans = λ e ok. let both = planned e ok in plan_sets (changed_of c) (changed_of c') sets old new old' new' both.0 both.1;
            groups = λ h. (records h).0;
            waves = λ h. (records h).1;
          },
          causes m c a is,
          causes m' c' a' there,
        )

  module _ (laws : Laws o) (absorbs : Absorbs o) (m : Meaning K) (sound : Sound o m) (c : Step K) (old new : Memory K) (a : Result Outcome ℕ)
      (called : Called o m c old new a) where
    agree : ClosingsAgree o m c old new a
    agree = record {
      same = λ closing ok c' old' new' a' called' closing' ok'.
          two_agree m a a' old.table old'.table new.table new'.table (table_left m old new a c called closing) (table_left m old' new' a' c' called' closing') ok ok';
      joins = λ closing ok k h i j hi hj.
          sym (get_or-take (m.n * m.n) new.table (i * m.n + j) o.none (mul-add-lt i m.n j m.n hi hj))
          ∙ ap (λ cells. cell o m.n cells i j)
          ((closure_left o m sound laws absorbs a old.table new.table (table_left m old new a c called closing) ok).longer k h)
          ∙ shows_table o m.n (L o (in_force m) k) i j hi hj;
      refuses = λ e enough refused. (loop_cause m a (as_ordered e enough) refused).1;
      refused = λ e enough loop. loop_refused m sound a (as_ordered e enough) loop;
    }
      where
        as_ordered : kind c ≡ order → falls_short m (sizes old) c ≡ false → a ≡ ordered (looped (in_force m) m.n)
        as_ordered e enough = answers m old new a c called (ap asks e) enough ∙ ap (fully m (changed_of c)) e

    least : (told : PlanCounts) → kind c ≡ plan → a ≡ Ok (outcomes.Planned told) → LeastWaits (in_force m) m.n (changed_of c) new.sets new.records told
    least told e is =
        let changed = changed_of c in
        let x = counts (in_force m) m.n changed in
        let left = subst (Left m (falls_short m (sizes old) c) old new a changed) e (left m old new a c called) (ap is_ok is) in
        let as_given : Ok (outcomes.Planned told) ≡ given x (changed_answer m changed) =
        sym is ∙ answers m old new a c called (ap asks e) left.0 ∙ ap (fully m changed) e in
        let taken : is_ok (changed_answer m changed) ≡ true = sym (ap is_ok as_given ∙ ok_given x (changed_answer m changed)) in
        least_waits (in_force m) m.n (ends m o sound) changed (changed_known m changed (only_tt (changed_answer m changed) taken))
        new.sets (drop (m.n * m.n) old.sets) old.records new.records told
        left.1.sets left.1.many left.1.records
        (ap (counts_in x) (as_given ∙ given_ok x (changed_answer m changed) taken))

  pub promised : (laws : Laws o) (absorbs : Absorbs o) (first : Meaning K) (calls : List (Step K)) (question : Step K) (old new : Memory K) (a : Result Outcome ℕ)
      → Sound o (reckoned o first calls) → Called o (reckoned o first calls) question old new a → Promise o first calls question old new a
  unfolding Compared
  promised laws absorbs first calls question old new a sound called = let m = reckoned o first calls in record {
    reckoned_from_the_making_and_the_calls = called;
    closings_agree = agree laws absorbs m sound question old new a called;
    waits_are_least = least laws absorbs m sound question old new a called;
    order_does_not_matter = λ first' calls' question' old' new' a' called' alike.
        compared laws m (reckoned o first' calls') alike sound question question' old new old' new' a a' called called' alike;
    refused_for_a_cause = λ enough asked. causes m question a (answers m old new a question called asked enough);
  }
