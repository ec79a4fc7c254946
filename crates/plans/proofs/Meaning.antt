-- What the tests of a plan mean: the plan, jobs, arcs between jobs, sets and waits.
use Rattle.std.proofs.Common.{◌≡◌, ℕ, ◌+◌, ◌<◌, ◌≤◌, Bool, true, false, cond, not, ◌&&◌, ◌||◌, eqb, ◌⊎◌, List, [], ◌∷◌, length, get_or, take, drop, count_by, sym, refl, ap, ◌∙◌, subst, inl, inr, ⊎_elim, arith, eq-eqb, eqb-true}
use native.Mathlib.Decide.{ℕ_discrete}
use Rattle.std.specs.List.{range_with_len, list_any}
use Rattle.std.proofs.lemmas.Bool.{true≢false, false≢true, and_parts, and_from, or_cases, or_left, or_right, cases_Bool, not_from_false, not_from_true, false_from_ne_true}
use Rattle.std.proofs.lemmas.List.FromFn.{length-range_with_len, get_or-range_with_len}
use Rattle.std.proofs.lemmas.List.Sums.{count_by-le-length, sum_by-take-drop, sum_by-drop_more, sum_by-le-sum_by}
use Rattle.paths.specs.declared.arc.Arc.{Arc}
use Rattle.paths.specs.Chains.{Mem, IsChain}
use Rattle.paths.specs.Groups.{chained, group, Chained, Together}
use Rattle.paths.proofs.Tests.{any_sound, any_full}
use Rattle.paths.proofs.Groups.{chained_sound, chained_full, chained_one, chained_join, chained_from, together_sym, group_in, group_least, group_one, group_apart}
use Rattle.plans.specs.Plans.{planned, job, in_set}
use Rattle.plans.specs.Relations.{Reach, here, step, Connects, Wait, Numbers}
use Rattle.plans.specs.Laws.{Depends, Waits}
use Rattle.plans.proofs.Reduction.{reach_ways, connects_one, connects_reach}

module _ {A : Type 0} (test : A → Bool) where
  pub any_found : (xs : List A) → list_any test xs ≡ true → (x : A) × Mem x xs × (test x ≡ true)
  any_found [] e = absurd (false≢true e)
  any_found (x ∷ xs) e =
      ⊎_elim
      (λ h. (x, inl refl, h))
      (λ h. let r = any_found xs h in (r.0, inr r.1, r.2))
      (or_cases (test x) (list_any test xs) e)

  pub any_mem : (x : A) (xs : List A) → Mem x xs → test x ≡ true → list_any test xs ≡ true
  any_mem x [] m e = elim m [ ]
  any_mem x (y ∷ xs) (inl h) e = or_left (test y) (list_any test xs) (ap test (sym h) ∙ e)
  any_mem x (y ∷ xs) (inr m) e = or_right (test y) (list_any test xs) (any_mem x xs m e)

not_made : (b : Bool) → (b ≡ true → ⊥) → not b ≡ true
not_made b h = not_from_false b (false_from_ne_true b h)

not_taken : (b : Bool) → not b ≡ true → b ≡ true → ⊥
not_taken b h e = false≢true (sym (not_from_true b e) ∙ h)

-- fewer numbers pass a narrower test that refuses one
count_less : (s t : ℕ → Bool) (n b : ℕ) → ((x : ℕ) → s x ≡ true → t x ≡ true) → b < n → s b ≡ false → t b ≡ true
    → count_by s (range_with_len 0 n) < count_by t (range_with_len 0 n)
count_less s t n b wider l out into =
    let xs = range_with_len 0 n in
    let long : b < length xs = omega (arith, length-range_with_len 0 n) in
    let at : get_or xs b 0 ≡ b = omega (arith, get_or-range_with_len 0 n b 0 l) in
    let few : one s (get_or xs b 0) ≡ 0 = ap (one s) at ∙ ap (λ x. cond x 1 0) out in
    let many : one t (get_or xs b 0) ≡ 1 = ap (one t) at ∙ ap (λ x. cond x 1 0) into in
    omega (
      arith,
      sum_by-take-drop (one s) xs b,
      sum_by-drop_more (one s) xs b 0 long,
      sum_by-take-drop (one t) xs b,
      sum_by-drop_more (one t) xs b 0 long,
      sum_by-le-sum_by (one s) (one t) (take b xs) each,
      sum_by-le-sum_by (one s) (one t) (drop (b + 1) xs) each,
    )
  where
    one : (ℕ → Bool) → ℕ → ℕ
    one test x = cond (test x) 1 0

    each : (x : ℕ) → one s x ≤ one t x
    each x = go (s x) (t x) (wider x)
      where
        go : (p q : Bool) → (p ≡ true → q ≡ true) → cond p 1 0 ≤ cond q 1 0
        go true q h = subst (λ y. 1 ≤ cond y 1 0) (sym (h refl)) (omega arith)
        go false q h = omega arith

module _ {K : Type 0} (arcs : List (Arc K)) where
  -- equal, or a chain leads from p to q
  abbrev Led : ℕ → ℕ → Type 0
  Led p q = (p ≡ q) ⊎ Chained arcs p q

  led_after : (p q r : ℕ) → Chained arcs p q → Led q r → Chained arcs p r
  led_after p q r h (inl e) = subst (λ x. Chained arcs p x) e h
  led_after p q r h (inr more) = chained_join arcs p q r h more

  led_before : (p q r : ℕ) → Led p q → Chained arcs q r → Chained arcs p r
  led_before p q r (inl e) h = subst (λ x. Chained arcs x r) (sym e) h
  led_before p q r (inr first) h = chained_join arcs p q r first h

  together_led : (p q : ℕ) → Together arcs p q → Led p q
  together_led p q (inl e) = inl e
  together_led p q (inr both) = inr both.0

  chain_led : (p q : ℕ) (c : List (Arc K)) → IsChain arcs p q c → Led p q
  chain_led p q [] h = inl h
  chain_led p q (a ∷ c) h = inr (a ∷ c, omega arith, h)

module _ {K : Type 0} (arcs : List (Arc K)) (n : ℕ) (ends : (a : Arc K) → Mem a arcs → (a.from < n) × (a.to < n)) (changed : List ℕ) (known : (c : ℕ) → Mem c changed → c < n) where
  heads : (a : Arc K) → Mem a arcs → a.to < n
  heads a m = (ends a m).1

  abbrev reaches : ℕ → ℕ → Bool
  reaches p c = eqb p c || chained arcs n p c

  pub planned_sound : (p : ℕ) → planned arcs n changed p ≡ true → (c : ℕ) × Mem c changed × ((p ≡ c) ⊎ Chained arcs p c)
  planned_sound p h =
      let r = any_found (reaches p) changed h in
      (r.0, r.1, ⊎_elim (λ e. inl (eqb-true p r.0 e)) (λ c. inr (chained_sound arcs n p r.0 c)) (or_cases (eqb p r.0) (chained arcs n p r.0) r.2))

  pub planned_full : (p c : ℕ) → Mem c changed → (p ≡ c) ⊎ Chained arcs p c → planned arcs n changed p ≡ true
  planned_full p c m h =
      any_mem (reaches p) c changed m
      (⊎_elim
      (λ e. or_left (eqb p c) (chained arcs n p c) (eq-eqb p c e))
      (λ t. or_right (eqb p c) (chained arcs n p c) (chained_full arcs n heads p c t))
      h)

  -- the plan is closed under chains backward
  pub planned_back : (p q : ℕ) → Chained arcs p q → planned arcs n changed q ≡ true → planned arcs n changed p ≡ true
  planned_back p q h e =
      let r = planned_sound q e in
      planned_full p r.0 r.1 (inr (led_after arcs p q r.0 h r.2))

  pub planned_inside : (p : ℕ) → planned arcs n changed p ≡ true → p < n
  planned_inside p h =
      let r = planned_sound p h in
      ⊎_elim
      (λ e. subst (λ x. x < n) (sym e) (known r.0 r.1))
      (λ t. chained_from arcs n ends p r.0 t)
      r.2

  pub group_below : (p : ℕ) → p < n → group arcs n p < n
  group_below p l = omega (arith, group_least arcs n heads p p (inl refl))

  -- all packages of a group are in the plan, or none is
  pub planned_group : (p q : ℕ) → group arcs n p ≡ group arcs n q → planned arcs n changed p ≡ true → planned arcs n changed q ≡ true
  planned_group p q e h =
      ⊎_elim
      (λ same. subst (λ x. planned arcs n changed x ≡ true) same h)
      (λ both. planned_back q p both.1 h)
      (group_apart arcs n heads p q e)

  pub job_planned : (a : ℕ) → job arcs n changed a ≡ true → planned arcs n changed a ≡ true
  job_planned a h = (and_parts (planned arcs n changed a) (eqb (group arcs n a) a) h).0

  pub job_inside : (a : ℕ) → job arcs n changed a ≡ true → a < n
  job_inside a h = planned_inside a (job_planned a h)

  pub job_name : (a : ℕ) → job arcs n changed a ≡ true → group arcs n a ≡ a
  job_name a h = eqb-true (group arcs n a) a (and_parts (planned arcs n changed a) (eqb (group arcs n a) a) h).1

  -- the package that names a group is in that group
  pub group_twice : (p : ℕ) → group arcs n (group arcs n p) ≡ group arcs n p
  group_twice p = sym (group_one arcs n heads p (group arcs n p) (group_in arcs n heads p))

  pub group_job : (p : ℕ) → planned arcs n changed p ≡ true → job arcs n changed (group arcs n p) ≡ true
  group_job p h =
      and_from (planned arcs n changed (group arcs n p)) (eqb (group arcs n (group arcs n p)) (group arcs n p))
      (planned_group p (group arcs n p) (sym (group_twice p)) h)
      (eq-eqb (group arcs n (group arcs n p)) (group arcs n p) (group_twice p))

  abbrev joins : ℕ → ℕ → Arc K → Bool
  joins a b e = eqb (group arcs n e.from) a && eqb (group arcs n e.to) b

  -- two jobs, and another fact of them
  abbrev pair : ℕ → ℕ → Bool → Bool
  pair a b t = job arcs n changed a && (job arcs n changed b && (not (eqb a b) && t))

  record Pair (a b : ℕ) (t : Bool) : Type 0 where
    from : job arcs n changed a ≡ true
    to : job arcs n changed b ≡ true
    apart : a ≡ b → ⊥
    more : t ≡ true

  pair_made : (a b : ℕ) (t : Bool) → Pair a b t → pair a b t ≡ true
  pair_made a b t h =
      and_from (job arcs n changed a) (job arcs n changed b && (not (eqb a b) && t)) h.from
      (and_from (job arcs n changed b) (not (eqb a b) && t) h.to
      (and_from (not (eqb a b)) t (not_made (eqb a b) (λ e. h.apart (eqb-true a b e))) h.more))

  pair_of : (a b : ℕ) (t : Bool) → pair a b t ≡ true → Pair a b t
  pair_of a b t h =
      let one = and_parts (job arcs n changed a) (job arcs n changed b && (not (eqb a b) && t)) h in
      let two = and_parts (job arcs n changed b) (not (eqb a b) && t) one.1 in
      let three = and_parts (not (eqb a b)) t two.1 in
      record { from = one.0; to = two.0; apart = λ e. not_taken (eqb a b) three.0 (eq-eqb a b e); more = three.1 }

  arc_pair : (a b : ℕ) → Depends arcs n changed a b → Pair a b (list_any (joins a b) arcs)
  arc_pair a b h = pair_of a b (list_any (joins a b) arcs) h

  pub depends_made : (e : Arc K) → Mem e arcs → planned arcs n changed e.to ≡ true → (group arcs n e.from ≡ group arcs n e.to → ⊥)
      → Depends arcs n changed (group arcs n e.from) (group arcs n e.to)
  depends_made e m h ne =
      let a = group arcs n e.from in
      let b = group arcs n e.to in
      pair_made a b (list_any (joins a b) arcs) (record {
        from = group_job e.from (planned_back e.from e.to (chained_one arcs e m) h);
        to = group_job e.to h;
        apart = ne;
        more = any_mem (joins a b) e arcs m (and_from (eqb a a) (eqb b b) (eq-eqb a a refl) (eq-eqb b b refl));
      })

  pub depends_from : (a b : ℕ) → Depends arcs n changed a b → job arcs n changed a ≡ true
  depends_from a b h = (arc_pair a b h).from

  pub depends_to : (a b : ℕ) → Depends arcs n changed a b → job arcs n changed b ≡ true
  depends_to a b h = (arc_pair a b h).to

  pub depends_apart : (a b : ℕ) → Depends arcs n changed a b → a ≡ b → ⊥
  depends_apart a b h = (arc_pair a b h).apart

  -- the arc behind it
  pub depends_arc : (a b : ℕ) → Depends arcs n changed a b → (e : Arc K) × Mem e arcs × (group arcs n e.from ≡ a) × (group arcs n e.to ≡ b)
  depends_arc a b h =
      let r = any_found (joins a b) arcs (arc_pair a b h).more in
      let both = and_parts (eqb (group arcs n r.0.from) a) (eqb (group arcs n r.0.to) b) r.2 in
      (r.0, r.1, eqb-true (group arcs n r.0.from) a both.0, eqb-true (group arcs n r.0.to) b both.1)

  pub depends_chained : (a b : ℕ) → Depends arcs n changed a b → Chained arcs a b
  depends_chained a b h =
      let r = depends_arc a b h in
      let e = r.0 in
      let from : Together arcs a e.from = together_sym arcs e.from a (subst (λ x. Together arcs e.from x) r.2 (group_in arcs n heads e.from)) in
      let to : Together arcs e.to b = subst (λ x. Together arcs e.to x) r.3 (group_in arcs n heads e.to) in
      led_before arcs a e.from b (together_led arcs a e.from from)
      (led_after arcs e.from e.to b (chained_one arcs e r.1) (together_led arcs e.to b to))

  reach_led : {a b : ℕ} → Reach (Depends arcs n changed) a b → Led arcs a b
  reach_led here = inl refl
  reach_led (step {p} {q} {r} d more) = inr (led_after arcs p q r (depends_chained p q d) (reach_led more))

  reach_job : {a b : ℕ} → job arcs n changed a ≡ true → Reach (Depends arcs n changed) a b → job arcs n changed b ≡ true
  reach_job j here = j
  reach_job j (step {p} {q} d more) = reach_job (depends_to p q d) more

  set_pair : (a b : ℕ) → in_set arcs n changed a b ≡ true → Pair a b (chained arcs n a b)
  set_pair a b h = pair_of a b (chained arcs n a b) h

  pub set_from : (a b : ℕ) → in_set arcs n changed a b ≡ true → job arcs n changed a ≡ true
  set_from a b h = (set_pair a b h).from

  pub set_to : (a b : ℕ) → in_set arcs n changed a b ≡ true → job arcs n changed b ≡ true
  set_to a b h = (set_pair a b h).to

  -- the arcs between jobs connect a to b exactly where b is in a's set
  pub connects_set : (a b : ℕ) → Connects (Depends arcs n changed) a b → in_set arcs n changed a b ≡ true
  connects_set a b h =
      let c = h.0 in
      let from = depends_from a c h.1 in
      let to = depends_to a c h.1 in
      let first = depends_chained a c h.1 in
      -- a chain back to a would make a and c one job
      let back : Chained arcs c a → a ≡ c = λ t. sym (job_name a from) ∙ group_one arcs n heads a c (inr (first, t)) ∙ job_name c to in
      let loop : Led arcs c a → a ≡ c = λ t. ⊎_elim (λ e. sym e) back t in
      pair_made a b (chained arcs n a b) (record {
        from = from;
        to = reach_job to h.2;
        apart = λ e. depends_apart a c h.1 (loop (subst (λ x. Led arcs c x) (sym e) (reach_led h.2)));
        more = chained_full arcs n heads a b (led_after arcs a c b first (reach_led h.2));
      })

  -- a chain that ends at a job leads over arcs between jobs
  chain_reach : (p b : ℕ) (c : List (Arc K)) → IsChain arcs p b c → job arcs n changed b ≡ true → Reach (Depends arcs n changed) (group arcs n p) b
  chain_reach p b [] h j = subst (λ x. Reach (Depends arcs n changed) x b) (sym (ap (group arcs n) h ∙ job_name b j)) here
  chain_reach p b (e ∷ c) h j = go (ℕ_discrete (group arcs n e.from) (group arcs n e.to)) (chain_reach e.to b c h.2 j)
    where
      there : planned arcs n changed e.to ≡ true
      there =
          ⊎_elim
          (λ same. subst (λ x. planned arcs n changed x ≡ true) (sym same) (job_planned b j))
          (λ t. planned_back e.to b t (job_planned b j))
          (chain_led arcs e.to b c h.2)

      go : Dec (group arcs n e.from ≡ group arcs n e.to) → Reach (Depends arcs n changed) (group arcs n e.to) b → Reach (Depends arcs n changed) (group arcs n p) b
      go (yes same) more = subst (λ x. Reach (Depends arcs n changed) x b) (sym same ∙ ap (group arcs n) h.1) more
      go (no ne) more = subst (λ x. Reach (Depends arcs n changed) (group arcs n x) b) h.1 (step (depends_made e h.0 there ne) more)

  pub set_connects : (a b : ℕ) → in_set arcs n changed a b ≡ true → Connects (Depends arcs n changed) a b
  set_connects a b h =
      let pair = set_pair a b h in
      let chain = chained_sound arcs n a b pair.more in
      ⊎_elim
      (λ e. absurd (pair.apart e))
      (λ c. c)
      (reach_ways (subst (λ x. Reach (Depends arcs n changed) x b) (job_name a pair.from) (chain_reach a b chain.0 chain.2 pair.to)))

  -- is a job of a's set one that has b in its set?
  abbrev over : ℕ → ℕ → ℕ → Bool
  over a b c = in_set arcs n changed a c && in_set arcs n changed c b

  abbrev pub Third : ℕ → ℕ → Type 0
  Third a b = (c : ℕ) × Connects (Depends arcs n changed) a c × Connects (Depends arcs n changed) c b

  third_found : (a b : ℕ) → list_any (over a b) (range_with_len 0 n) ≡ true → Third a b
  third_found a b t =
      let r = any_sound (over a b) n t in
      let both = and_parts (in_set arcs n changed a r.0) (in_set arcs n changed r.0 b) r.2 in
      (r.0, set_connects a r.0 both.0, set_connects r.0 b both.1)

  third_told : (a b : ℕ) → Third a b → list_any (over a b) (range_with_len 0 n) ≡ true
  third_told a b h =
      let s = connects_set a h.0 h.1 in
      any_full (over a b) n h.0 (job_inside h.0 (set_to a h.0 s)) (and_from (in_set arcs n changed a h.0) (in_set arcs n changed h.0 b) s (connects_set h.0 b h.2))

  pub third : (a b : ℕ) → Dec (Third a b)
  third a b =
      ⊎_elim
      (λ t. yes (third_found a b t))
      (λ f. no (λ h. true≢false (sym (third_told a b h) ∙ f)))
      (cases_Bool (list_any (over a b) (range_with_len 0 n)))

  -- the waits are those of the arcs between jobs
  pub wait_sound : (a b : ℕ) → Waits arcs n changed a b → Wait (Depends arcs n changed) a b
  wait_sound a b h =
      let both = and_parts (in_set arcs n changed a b) (not (list_any (over a b) (range_with_len 0 n))) h in
      (set_connects a b both.0, λ c l r. not_taken (list_any (over a b) (range_with_len 0 n)) both.1 (third_told a b (c, l, r)))

  pub wait_full : (a b : ℕ) → Wait (Depends arcs n changed) a b → Waits arcs n changed a b
  wait_full a b w =
      and_from (in_set arcs n changed a b) (not (list_any (over a b) (range_with_len 0 n)))
      (connects_set a b w.0)
      (not_made (list_any (over a b) (range_with_len 0 n)) (λ t. let r = third_found a b t in w.1 r.0 r.1 r.2))

  -- how many jobs are in a's set: fewer along each arc between jobs
  abbrev pub size : ℕ → ℕ
  size a = count_by (in_set arcs n changed a) (range_with_len 0 n)

  pub size_most : (a : ℕ) → size a ≤ n
  size_most a = omega (arith, count_by-le-length (in_set arcs n changed a) (range_with_len 0 n), length-range_with_len 0 n)

  pub size_falls : Numbers (Depends arcs n changed) size
  size_falls a b d =
      count_less (in_set arcs n changed b) (in_set arcs n changed a) n b
      (λ x h. connects_set a x (b, d, connects_reach (set_connects b x h)))
      (job_inside b (depends_to a b d))
      (false_from_ne_true (in_set arcs n changed b b) (λ h. (set_pair b b h).apart refl))
      (connects_set a b (connects_one (Depends arcs n changed) a b d))
