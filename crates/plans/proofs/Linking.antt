-- What the steps of a plan leave in their tables is what the definitions say.
use Rattle.std.proofs.Common.{◌≡◌, ℕ, zero, suc, ◌*◌, ◌<◌, ◌≤◌, Bool, true, false, cond, List, [], ◌∷◌, length, slice_index, sym, refl, ap, ◌∙◌, subst, inl, inr, ⊎_elim, true≢false, arith}
use Rattle.std.proofs.lemmas.Bool.{cases_lt, cases_eq}
use Rattle.paths.specs.declared.arc.Arc.{Arc}
use Rattle.paths.specs.Chains.{Mem, IsChain}
use Rattle.paths.specs.Groups.{group, group_count}
use Rattle.paths.proofs.Groups.{chained_one}
use Rattle.paths.proofs.Written.{written}
use Rattle.graphs.specs.Records.{Ranked}
use Rattle.graphs.specs.Searches.{Marked}
use Rattle.plans.specs.Relations.{Reach, here, step, Connects}
use Rattle.plans.specs.Plans.{planned, in_set, wait, wave, byte, bytes}
use Rattle.plans.specs.Laws.{Depends}
use Rattle.plans.specs.Steps.{cell, Named, Falling, Spreads, Between, Rowed, Built}
use Rattle.plans.proofs.Reduction.{reach_map, wait_same}
use Rattle.plans.proofs.Meaning.{planned_sound, planned_full, planned_back, planned_group, group_below, group_twice, job_planned, job_name, depends_made, depends_to, depends_apart, depends_arc, connects_set, set_connects, wait_sound, wait_full}
use Rattle.plans.proofs.Heights.{wave_waves}

-- a cell of at most 2 that says what two tests say
cell_told : (x : ℕ) (w s : Bool) → x ≤ 2 → (0 < x → s ≡ true) → (s ≡ true → 0 < x)
    → (x ≡ 2 → w ≡ true) → (w ≡ true → x ≡ 2) → x ≡ cond w 2 (cond s 1 0)
cell_told x true s small sound full waits all = all refl
cell_told x false true small sound full waits all =
    ⊎_elim (λ two. absurd (true≢false (sym (waits two)))) (λ less. omega (arith, small, full refl, less)) (cases_eq x 2)
cell_told x false false small sound full waits all =
    ⊎_elim (λ some. absurd (true≢false (sym (sound some)))) (λ none. omega (arith, none)) (cases_lt 0 x)

module _ {K : Type 0} (arcs : List (Arc K)) (n : ℕ) (ends : (a : Arc K) → Mem a arcs → (a.from < n) × (a.to < n))
    (changed : List ℕ) (known : (c : ℕ) → Mem c changed → c < n) (rank : ℕ → ℕ) (ranked : Ranked arcs n rank)
    (E : ℕ → ℕ → Type 0)
    (edge_to : (r t : ℕ) → E r t → (a : Arc K) × Mem a arcs × (rank a.from ≡ r) × (rank a.to ≡ t))
    (edge_of : (a : Arc K) → Mem a arcs → E (rank a.from) (rank a.to)) where
  pub falling : Falling E (group_count arcs n)
  falling = record {
    tails = λ r t e. let w = edge_to r t e in subst (λ x. x < group_count arcs n) w.2 (ranked.below w.0.from (ends w.0 w.1).0);
    falls = λ r t e.
        let w = edge_to r t e in
        ⊎_elim
        (λ one. omega (arith, w.2, w.3, ranked.same w.0.from w.0.to (ends w.0 w.1).0 (ends w.0 w.1).1 one))
        (λ two. omega (arith, w.2, w.3, ranked.falls w.0 w.1 two))
        (cases_eq (group arcs n w.0.from) (group arcs n w.0.to));
  }

  module _ (names : List ℕ) (long : group_count arcs n ≤ length names)
      (names_is : (p : ℕ) → p < n → slice_index names (rank p) ≡ group arcs n p) where
    -- a rank below the number of groups is that of some package, in the group of that name
    name_of : (t : ℕ) → t < group_count arcs n → (p : ℕ) × (p < n) × (rank p ≡ t) × (slice_index names t ≡ group arcs n p)
    name_of t h = let w = ranked.used t h in (w.0, w.1, w.2, ap (slice_index names) (sym w.2) ∙ names_is w.0 w.1)

    -- and its name is the group's own
    name_own : (t : ℕ) → t < group_count arcs n → group arcs n (slice_index names t) ≡ slice_index names t
    name_own t h = let w = name_of t h in ap (group arcs n) w.3 ∙ group_twice arcs n ends changed known w.0 ∙ sym w.3

    pub named : Named names n (group_count arcs n)
    named = record {
      long = long;
      inside = λ t h. let w = name_of t h in subst (λ x. x < n) (sym w.3) (group_below arcs n ends changed known w.0 w.1);
      apart = λ t u h k e.
          let w = name_of t h in
          let v = name_of u k in
          sym w.2 ∙ ranked.same w.0 v.0 w.1 v.1 (sym w.3 ∙ e ∙ v.3) ∙ v.2;
    }

    module _ (live : List ℕ) (Seed : ℕ → ℕ → Type 0) (seed_to : (c t : ℕ) → Seed c t → Mem c changed × (rank c ≡ t))
        (seed_of : (c : ℕ) → Mem c changed → Seed c (rank c)) (spreads : Spreads E Seed (group_count arcs n) live) where
      pub back : (r t : ℕ) → E r t → Marked live t → Marked live r
      back r t e = spreads.back r t (falling.tails r t e) e

      -- where edges lead from one rank to another, the plan has the packages of the first if it has one of the other
      reach_planned : {r t : ℕ} → Reach E r t → (p q : ℕ) → p < n → q < n → rank p ≡ r → rank q ≡ t
          → planned arcs n changed q ≡ true → planned arcs n changed p ≡ true
      reach_planned here p q p_in q_in from to h =
          planned_group arcs n ends changed known q p (ranked.apart q p q_in p_in (to ∙ sym from)) h
      reach_planned (step {p = r} {q = s} e more) p q p_in q_in from to h =
          let w = edge_to r s e in
          let a = w.0 in
          planned_group arcs n ends changed known a.from p (ranked.apart a.from p (ends a w.1).0 p_in (w.2 ∙ sym from))
          (planned_back arcs n ends changed known a.from a.to (chained_one arcs a w.1)
          (reach_planned more a.to q (ends a w.1).1 q_in w.3 to h))

      pub live_is : (p : ℕ) → p < n → Marked live (rank p) → planned arcs n changed p ≡ true
      live_is p p_in h =
          let w = spreads.sound (rank p) h in
          let s = seed_to w.0 w.1 w.2 in
          reach_planned w.3 p w.0 p_in (known w.0 s.0) refl s.1 (planned_full arcs n ends changed known w.0 w.0 s.0 (inl refl))

      chain_live : (c : List (Arc K)) (p q : ℕ) → IsChain arcs p q c → Marked live (rank q) → Marked live (rank p)
      chain_live [] p q e h = subst (λ x. Marked live (rank x)) (sym e) h
      chain_live (a ∷ c) p q w h =
          subst (λ x. Marked live (rank x)) w.1
          (back (rank a.from) (rank a.to) (edge_of a w.0) (chain_live c a.to q w.2 h))

      pub live_all : (p : ℕ) → p < n → planned arcs n changed p ≡ true → Marked live (rank p)
      live_all p p_in h =
          let w = planned_sound arcs n ends changed known p h in
          let c = w.0 in
          let seed = spreads.seeds c (rank c) (seed_of c w.1) in
          elim w.2 [ inl e ↦ subst (λ x. Marked live (rank x)) (sym e) seed | inr way ↦ chain_live way.0 p c way.2 seed ]

      abbrev D : ℕ → ℕ → Type 0
      D = Between E live names

      abbrev D' : ℕ → ℕ → Type 0
      D' = Depends arcs n changed

      pub between_is : (a b : ℕ) → D a b → D' a b
      between_is a b d =
          let w = edge_to d.0 d.1 d.2.0 in
          let e = w.0 in
          let e_in = ends e w.1 in
          let from : group arcs n e.from ≡ a = sym (names_is e.from e_in.0) ∙ ap (slice_index names) w.2 ∙ d.3 in
          let to : group arcs n e.to ≡ b = sym (names_is e.to e_in.1) ∙ ap (slice_index names) w.3 ∙ d.4 in
          subst (λ x. D' x b) from (subst (D' (group arcs n e.from)) to
          (depends_made arcs n ends changed known e w.1 (live_is e.to e_in.1 (subst (Marked live) (sym w.3) d.2.1))
          (λ one. d.2.2 (sym w.3 ∙ sym (ranked.same e.from e.to e_in.0 e_in.1 one) ∙ w.2))))

      pub between_all : (a b : ℕ) → D' a b → D a b
      between_all a b d =
          let w = depends_arc arcs n ends changed known a b d in
          let e = w.0 in
          let e_in = ends e w.1 in
          let to = depends_to arcs n ends changed known a b d in
          let one = job_name arcs n ends changed known b to ∙ sym w.3 in
          let in_plan = planned_group arcs n ends changed known b e.to one (job_planned arcs n ends changed known b to) in (
            rank e.from,
            rank e.to,
            (
              edge_of e w.1,
              live_all e.to e_in.1 in_plan,
              λ same. depends_apart arcs n ends changed known a b d (sym w.2 ∙ ranked.apart e.from e.to e_in.0 e_in.1 (sym same) ∙ w.3),
            ),
            names_is e.from e_in.0 ∙ w.2,
            names_is e.to e_in.1 ∙ w.3,
          )

      connects_is : (a b : ℕ) → Connects D a b → Connects D' a b
      connects_is a b c = (c.0, between_is a c.0 c.1, reach_map between_is c.2)

      connects_all : (a b : ℕ) → Connects D' a b → Connects D a b
      connects_all a b c = (c.0, between_all a c.0 c.1, reach_map between_all c.2)

      module _ (waves sets : List ℕ) (built : Built D names waves sets n (group_count arcs n)) where
        -- a package that names no rank: its row is blank, and no pair leads from it
        nameless : (a : ℕ) → ((t : ℕ) → t < group_count arcs n → slice_index names t ≡ a → ⊥) → Rowed D sets n a
        nameless a none = record {
          small = λ c h. omega (arith, blank c h);
          sound = λ c h some. absurd (omega (arith, blank c h, some));
          full = λ c h k. absurd (alone k.0 k.1);
          waits = λ c h two. absurd (omega (arith, blank c h, two));
          all = λ c h k. absurd (alone k.0.0 k.0.1);
        }
          where
            blank : (c : ℕ) → c < n → cell sets n a c ≡ 0
            blank c h = built.blank a c h none

            alone : (c : ℕ) → D a c → ⊥
            alone c d = none d.0 (falling.tails d.0 d.1 d.2.0) d.3

        rowed : (a : ℕ) → a < n → Rowed D sets n a
        rowed a a_in =
            ⊎_elim
            (λ own. subst (Rowed D sets n) (names_is a a_in ∙ own) (built.rows (rank a) (ranked.below a a_in)))
            (λ other. nameless a (λ t h e. other (ap (group arcs n) (sym e) ∙ name_own t h ∙ e)))
            (cases_eq (group arcs n a) a)

        pub cell_is : (a b : ℕ) → a < n → b < n → cell sets n a b ≡ byte arcs n changed a b
        cell_is a b a_in b_in =
            let r = rowed a a_in in
            cell_told (cell sets n a b) (wait arcs n changed a b) (in_set arcs n changed a b) (r.small b b_in)
            (λ some. connects_set arcs n ends changed known a b (connects_is a b (r.sound b b_in some)))
            (λ s. r.full b b_in (connects_all a b (set_connects arcs n ends changed known a b s)))
            (λ two. wait_full arcs n ends changed known a b (wait_same D D' (connects_is, connects_all) a b (r.waits b b_in two)))
            (λ w. r.all b b_in (wait_same D' D (connects_all, connects_is) a b (wait_sound arcs n ends changed known a b w)))

        -- rank t's wave is that of its name
        abbrev Told : ℕ → Type 0
        Told t = slice_index waves t ≡ wave arcs n changed (slice_index names t)

        at_most : (t : ℕ) → t < group_count arcs n → ((u : ℕ) → u < t → Told u)
            → slice_index waves t ≤ wave arcs n changed (slice_index names t)
        at_most t h lower =
            let a = slice_index names t in
            ⊎_elim
            (λ none. omega (arith, none))
            (λ w.
            let b = slice_index names w.0 in
            omega (arith, w.3, lower w.0 w.1, (wave_waves arcs n ends changed known).above a b (between_is a b w.2)))
            (built.waved t h).tight

        at_least : (t : ℕ) → t < group_count arcs n → ((u : ℕ) → u < t → Told u)
            → wave arcs n changed (slice_index names t) ≤ slice_index waves t
        at_least t h lower =
            let a = slice_index names t in
            ⊎_elim
            (λ none. omega (arith, none))
            (λ w.
            let d = between_all a w.0 w.1 in
            let u = d.1 in
            let same = named.apart d.0 t (falling.tails d.0 u d.2.0) h d.3 in
            let below : u < t =
            ⊎_elim
            (λ lt. omega (arith, lt, same))
            (λ ge. absurd (d.2.2 (omega (arith, falling.falls d.0 u d.2.0, ge))))
            (cases_lt u d.0) in
            let up = (built.waved t h).above u below (subst (D a) (sym d.4) d) in
            omega (arith, w.2, up, lower u below, ap (wave arcs n changed) d.4))
            ((wave_waves arcs n ends changed known).tight a)

        -- the lower ranks first
        told : (k t : ℕ) → t < k → t < group_count arcs n → Told t
        told zero t lt h = absurd (omega (arith, lt))
        told (suc k) t lt h =
            let lower : (u : ℕ) → u < t → Told u = λ u below. told k u (omega (arith, lt, below)) (omega (arith, h, below)) in
            omega (arith, at_most t h lower, at_least t h lower)

        pub wave_is : (p : ℕ) → p < n → Marked live (rank p) → slice_index waves (rank p) ≡ wave arcs n changed (group arcs n p)
        wave_is p p_in _ =
            let r_in = ranked.below p p_in in
            told (group_count arcs n) (rank p) r_in r_in ∙ ap (wave arcs n changed) (names_is p p_in)

        pub sets_is : length sets ≡ n * n → sets ≡ bytes arcs n changed
        sets_is size = written n (byte arcs n changed) 0 sets size cell_is
