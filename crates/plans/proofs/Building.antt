-- Why a job's row says what the job is connected to and what it waits for, and its wave what it should; and how the
-- tables grow job by job.
use Rattle.std.proofs.Common.{◌≡◌, ◌≢◌, ℕ, ◌+◌, ◌*◌, ◌<◌, ◌≤◌, List, length, get_or, set, take, sym, refl, ap, ◌∙◌, subst, inl, inr, ⊎_elim, arith}
use Rattle.std.proofs.lemmas.List.{get_or-set_same, get_or-set_other, get_or-take, length-take-le}
use Rattle.std.proofs.lemmas.Bool.{cases_lt}
use Rattle.graphs.specs.Searches.{Marked}
use Rattle.tables.specs.Tables.{put_row}
use Rattle.tables.proofs.Areas.{row_within}
use Rattle.tables.proofs.RowWrites.{cell_written, cell_beside}
use Rattle.plans.specs.Relations.{Reach, here, step, Connects, Wait}
use Rattle.plans.specs.Steps.{cell, Named, Falling, Aims, Flagged, Between, Merged, Nested, Deep, Rowed, Waved, Built}
use Rattle.plans.proofs.Reduction.{reach_ways, connects_one, connects_join, connects_reach, wait_needed}

-- the same rows, in a table with the same bytes there
pub rowed_same : (D : ℕ → ℕ → Type 0) (sets sets' : List ℕ) (n a : ℕ) → ((c : ℕ) → c < n → cell sets' n a c ≡ cell sets n a c) → Rowed D sets n a → Rowed D sets' n a
rowed_same D sets sets' n a same r = record {
  small = λ c l. rw (same c l) (r.small c l);
  sound = λ c l h. r.sound c l (subst (λ x. 0 < x) (same c l) h);
  full = λ c l k. rw (same c l) (r.full c l k);
  waits = λ c l h. r.waits c l (sym (same c l) ∙ h);
  all = λ c l k. same c l ∙ r.all c l k;
}

pub waved_same : (D : ℕ → ℕ → Type 0) (names waves waves' : List ℕ) (r a d : ℕ) → ((u : ℕ) → u < r → get_or waves' u 0 ≡ get_or waves u 0) → Waved D names waves r a d → Waved D names waves' r a d
waved_same D names waves waves' r a d same w = record {
  above = λ u l k. rw (same u l) (w.above u l k);
  tight = ⊎_elim (λ z. inl z) (λ t. inr (t.0, t.1, t.2, t.3 ∙ ap (λ x. x + 1) (sym (same t.0 t.1)))) w.tight;
}

module _ (E : ℕ → ℕ → Type 0) (live names : List ℕ) (n g : ℕ) (falling : Falling E g) (named : Named names n g) where
  -- edges between jobs fall by rank
  falls : (r : ℕ) → r < g → (b : ℕ) → Between E live names (get_or names r 0) b → (t : ℕ) × (t < r) × Aims E live r t × (get_or names t 0 ≡ b)
  falls r r_in b d =
      let same : d.0 ≡ r = named.apart d.0 r (falling.tails d.0 d.1 d.2.0) r_in d.3 in
      let aims : Aims E live r d.1 = subst (λ x. Aims E live x d.1) same d.2 in
      (d.1, omega (arith, falling.falls r d.1 aims.0, aims.2), aims, d.4)

  reach_down : (r : ℕ) → r < g → {a b : ℕ} → get_or names r 0 ≡ a → Reach (Between E live names) a b → (t : ℕ) × (t ≤ r) × (get_or names t 0 ≡ b)
  reach_down r r_in e here = (r, omega arith, e)
  reach_down r r_in e (step {p} {q} d more) =
      let w = falls r r_in q (subst (λ x. Between E live names x q) (sym e) d) in
      let v = reach_down w.0 (omega (arith, w.1)) w.3 more in
      (v.0, omega (arith, v.1, w.1), v.2)

  connects_down : (r t : ℕ) → r < g → t < g → Connects (Between E live names) (get_or names r 0) (get_or names t 0) → t < r
  connects_down r t r_in t_in k =
      let w = falls r r_in k.0 k.1 in
      let v = reach_down w.0 (omega (arith, w.1)) w.3 k.2 in
      omega (arith, w.1, v.1, named.apart v.0 t (omega (arith, v.1, w.1)) t_in v.2)

  module _ (r : ℕ) (r_in : r < g) (flags : List ℕ) (flagged : Flagged E live r flags) where
    aims : (t : ℕ) → t < r → Marked (take r flags) t → Between E live names (get_or names r 0) (get_or names t 0)
    aims t l h = (r, t, flagged.sound t (subst (λ x. 0 < x) (get_or-take r flags t 0 l) h), refl, refl)

    aimed : (b : ℕ) → Between E live names (get_or names r 0) b → (t : ℕ) × (t < r) × Marked (take r flags) t × (get_or names t 0 ≡ b)
    aimed b d =
        let w = falls r r_in b d in
        (w.0, w.1, subst (λ x. 0 < x) (sym (get_or-take r flags w.0 0 w.1)) (flagged.full w.0 w.2), w.3)

    -- the depth of a job is its wave
    deep_waved : (waves : List ℕ) (d : ℕ) → Deep (take r flags) waves r d → Waved (Between E live names) names waves r (get_or names r 0) d
    deep_waved waves d deep = record {
      above = λ u l k. let w = aimed (get_or names u 0) k in
          deep.above u l (subst (λ x. Marked (take r flags) x) (named.apart w.0 u (omega (arith, w.1)) (omega arith) w.3) w.2);
      tight = ⊎_elim (λ z. inl z) (λ w. inr (w.0, w.1, aims w.0 w.1 w.2, w.3)) deep.tight;
    }

    -- what is merged says what the job is connected to, and what it waits for
    module _ (sets : List ℕ) (rows : (t : ℕ) → t < r → Rowed (Between E live names) sets n (get_or names t 0))
        (row : List ℕ) (m : Merged (take r flags) names sets n 0 r row) where
      row_sound : (c : ℕ) → c < n → 0 < get_or row c 0 → Connects (Between E live names) (get_or names r 0) c
      row_sound c l h =
          let w = m.sound c l h in
          let d = aims w.0 w.2 w.3.0 in
          ⊎_elim
          (λ e. connects_one (Between E live names) (get_or names r 0) c (subst (λ x. Between E live names (get_or names r 0) x) e d))
          (λ p. (get_or names w.0 0, d, connects_reach ((rows w.0 w.2).sound c l p)))
          w.3.1

      row_full : (c : ℕ) → c < n → Connects (Between E live names) (get_or names r 0) c → 0 < get_or row c 0
      row_full c l k =
          let w = aimed k.0 k.1 in
          m.full w.0 c l (omega arith) w.1 (w.2, ⊎_elim (λ e. inl (w.3 ∙ e)) (λ more. inr ((rows w.0 w.1).full c l (subst (λ x. Connects (Between E live names) x c) (sym w.3) more))) (reach_ways k.2))

      two_sound : (c : ℕ) → c < n → get_or row c 0 ≡ 2 → Wait (Between E live names) (get_or names r 0) c
      two_sound c l h =
          let w = m.waits c l h in (
            row_sound c l (omega (arith, h)),
            λ x k k'.
                let v = aimed k.0 k.1 in
                let on : Connects (Between E live names) (get_or names v.0 0) c = subst (λ y. Connects (Between E live names) y c) (sym v.3)
                (⊎_elim (λ e. subst (λ y. Connects (Between E live names) y c) (sym e) k') (λ more. connects_join more k') (reach_ways k.2)) in
                let down : w.0 < v.0 = connects_down v.0 w.0 (omega (arith, v.1)) (omega (arith, w.2)) (subst (λ y. Connects (Between E live names) (get_or names v.0 0) y) (sym w.4) on) in
                w.5 v.0 down v.1 v.2 ((rows v.0 v.1).full c l on),
          )

      two_full : (c : ℕ) → c < n → Wait (Between E live names) (get_or names r 0) c → get_or row c 0 ≡ 2
      two_full c l k =
          let D : ℕ → ℕ → Type 0 = Between E live names in
          let w = aimed c (wait_needed D D (λ a b q. q, λ a b q. q) (get_or names r 0) c k) in
          ap (λ x. get_or row x 0) (sym w.3) ∙ m.all w.0 (omega arith) w.1 w.2 (λ v _ v_in on p.
          k.1 (get_or names v 0) (connects_one D (get_or names r 0) (get_or names v 0) (aims v v_in on)) ((rows v v_in).sound c l (subst (λ x. 0 < cell sets n (get_or names v 0) x) w.3 p)))

      put_rowed : (sets' : List ℕ) → ((c : ℕ) → c < n → cell sets' n (get_or names r 0) c ≡ get_or row c 0) → Rowed (Between E live names) sets' n (get_or names r 0)
      put_rowed sets' put = record {
        small = λ c l. rw (put c l) (m.small c l);
        sound = λ c l h. row_sound c l (subst (λ x. 0 < x) (put c l) h);
        full = λ c l k. rw (put c l) (row_full c l k);
        waits = λ c l h. two_sound c l (sym (put c l) ∙ h);
        all = λ c l k. put c l ∙ two_full c l k;
      }

-- what is written to a row, and what is not
module _ (n a : ℕ) (sets row new : List ℕ) (a_in : a < n) (square : length sets ≡ n * n) (wide : length row ≡ n) (put : new ≡ put_row n sets a row) where
  room : a * n + n ≤ length sets
  room = omega (arith, square, row_within n a a_in)

  pub at_row : (c : ℕ) → c < n → cell new n a c ≡ get_or row c 0
  at_row c l = ap (λ x. cell x n a c) put ∙ cell_written n sets row a room wide c 0 l

  pub off_row : (x c : ℕ) → c < n → x ≢ a → cell new n x c ≡ cell sets n x c
  off_row x c l ne = ap (λ y. cell y n x c) put ∙ cell_beside n sets row a room wide x c 0 l (λ e. ne (sym e))

pub named_below : (names : List ℕ) (n g m : ℕ) → Named names n g → m ≤ g → Named names n m
named_below names n g m named le = record {
  long = omega (arith, named.long);
  inside = λ t l. named.inside t (omega arith);
  apart = λ t u l k e. named.apart t u (omega arith) (omega arith) e;
}

-- the rows done so far are nested
pub nested_below : (D : ℕ → ℕ → Type 0) (names waves sets : List ℕ) (n g r m : ℕ) → Built D names waves sets n r → Named names n g → r ≤ g → m ≤ r → Nested names sets n m
nested_below D names waves sets n g r m built named le low = record {
  within = λ t u c t_in u_in l p q.
      let row = λ (v : ℕ) (v_in : v < m). built.rows v (omega arith) in
      (row t t_in).full c l (connects_join ((row t t_in).sound (get_or names u 0) (named.inside u (omega arith)) p) ((row u u_in).sound c l q));
}

-- job r is taken: its row is entered, and its wave found
module _ (E : ℕ → ℕ → Type 0) (live names waves sets row flags : List ℕ) (n g r : ℕ) (falling : Falling E g) (named : Named names n g) (r_in : r < g)
    (long : length flags ≡ g) (flagged : Flagged E live r flags) where
  up_to : length (take r flags) ≡ r
  up_to = length-take-le r flags (omega arith)

  pub job_rowed : Built (Between E live names) names waves sets n r → Merged (take r flags) names sets n 0 (length (take r flags)) row
      → length sets ≡ n * n → length row ≡ n → (new : List ℕ) → new ≡ put_row n sets (get_or names r 0) row → Rowed (Between E live names) new n (get_or names r 0)
  job_rowed built merged square wide new put =
      put_rowed E live names n g falling named r r_in flags flagged sets built.rows row (subst (λ k. Merged (take r flags) names sets n 0 k row) up_to merged)
      new (at_row n (get_or names r 0) sets row new (named.inside r r_in) square wide put)

  pub job_waved : (d : ℕ) → Deep (take r flags) waves (length (take r flags)) d → Waved (Between E live names) names waves r (get_or names r 0) d
  job_waved d deep = deep_waved E live names n g falling named r r_in flags flagged waves d (subst (λ k. Deep (take r flags) waves k d) up_to deep)

-- one more rank is done
module _ (D : ℕ → ℕ → Type 0) (names waves sets : List ℕ) (n r g : ℕ) (r_in : r < g) (named : Named names n g) (b : Built D names waves sets n r) where
  -- it is in no pair
  pub built_none : ((c : ℕ) → D (get_or names r 0) c → ⊥) → Built D names waves sets n (r + 1)
  built_none none = record {
    rows = λ t l. ⊎_elim (λ lt. b.rows t lt) (λ ge. let e : t ≡ r = omega arith in subst (λ x. Rowed D sets n (get_or names x 0)) (sym e) empty) (cases_lt t r);
    blank = λ a c l h. b.blank a c l (λ t lt. h t (omega arith));
    low = λ t l. ⊎_elim (λ lt. b.low t lt) (λ (ge : r ≤ t). omega (arith, b.rest t ge)) (cases_lt t r);
    waved = λ t l. ⊎_elim (λ lt. b.waved t lt) (λ ge. let e : t ≡ r = omega arith in subst (λ x. Waved D names waves x (get_or names x 0) (get_or waves x 0)) (sym e) zero_waved) (cases_lt t r);
    rest = λ t l. b.rest t (omega arith);
  }
    where
      gone : (c : ℕ) → c < n → cell sets n (get_or names r 0) c ≡ 0
      gone c l = b.blank (get_or names r 0) c l (λ t lt e. omega (arith, named.apart t r (omega arith) r_in e))

      empty : Rowed D sets n (get_or names r 0)
      empty = record {
        small = λ c l. omega (arith, gone c l);
        sound = λ c l h. absurd (omega (arith, gone c l));
        full = λ c l k. absurd (none k.0 k.1);
        waits = λ c l h. absurd (omega (arith, gone c l));
        all = λ c l k. absurd (none k.0.0 k.0.1);
      }

      zero_waved : Waved D names waves r (get_or names r 0) (get_or waves r 0)
      zero_waved = record { above = λ u l k. absurd (none (get_or names u 0) k); tight = inl (b.rest r (omega arith)) }

  -- its row and its wave are entered
  pub built_more : (sets' : List ℕ) (d : ℕ) → r < length waves → Rowed D sets' n (get_or names r 0)
      → ((x c : ℕ) → c < n → x ≢ get_or names r 0 → cell sets' n x c ≡ cell sets n x c)
      → Waved D names waves r (get_or names r 0) d → d ≤ r → Built D names (set waves r d) sets' n (r + 1)
  built_more sets' d long row others w low = record {
    rows = λ t l. ⊎_elim
        (λ lt. rowed_same D sets sets' n (get_or names t 0) (λ c c_in. others (get_or names t 0) c c_in (λ e. omega (arith, lt, named.apart t r (omega arith) r_in e))) (b.rows t lt))
        (λ ge. let e : t ≡ r = omega arith in subst (λ x. Rowed D sets' n (get_or names x 0)) (sym e) row)
        (cases_lt t r);
    blank = λ a c l h. others a c l (λ e. h r (omega arith) (sym e)) ∙ b.blank a c l (λ t lt. h t (omega arith));
    low = λ t l. ⊎_elim (λ lt. rw (off t (λ e. omega arith)) (b.low t lt)) (λ ge. let e : t ≡ r = omega arith in rw (e, at) low) (cases_lt t r);
    waved = λ t l. ⊎_elim
        (λ lt. subst (λ x. Waved D names (set waves r d) t (get_or names t 0) x) (sym (off t (λ e. omega arith))) (waved_same D names waves (set waves r d) t (get_or names t 0) (get_or waves t 0) (λ u ul. off u (λ e. omega arith)) (b.waved t lt)))
        (λ ge. let e : t ≡ r = omega arith in subst (λ x. Waved D names (set waves r d) x (get_or names x 0) (get_or (set waves r d) x 0)) (sym e)
        (subst (λ x. Waved D names (set waves r d) r (get_or names r 0) x) (sym at) (waved_same D names waves (set waves r d) r (get_or names r 0) d (λ u ul. off u (λ e. omega arith)) w)))
        (cases_lt t r);
    rest = λ t l. off t (λ e. omega arith) ∙ b.rest t (omega arith);
  }
    where
      at : get_or (set waves r d) r 0 ≡ d
      at = get_or-set_same waves r d 0 long

      off : (t : ℕ) → (t ≡ r → ⊥) → get_or (set waves r d) t 0 ≡ get_or waves t 0
      off t ne = get_or-set_other waves r t d 0 ne

pub built_start : (D : ℕ → ℕ → Type 0) (names waves sets : List ℕ) (n : ℕ) → ((t : ℕ) → get_or waves t 0 ≡ 0) → ((i : ℕ) → get_or sets i 0 ≡ 0) → Built D names waves sets n 0
built_start D names waves sets n still zeros = record {
  rows = λ t l. absurd (omega arith);
  blank = λ a c l h. zeros (a * n + c);
  low = λ t l. absurd (omega arith);
  waved = λ t l. absurd (omega arith);
  rest = λ t l. still t;
}
