-- Neither the order of the arcs nor that of the changed packages and how often each is listed moves a plan.
use Rattle.std.proofs.Common.{◌≡◌, ℕ, zero, suc, ◌-◌, ◌<◌, Bool, cond, not, ◌&&◌, ◌||◌, eqb, List, ◌∷◌, map, filter, length, sum, refl, ap, ◌∙◌, arith}
use mathlib.Core.List.{Permᴰ}
use mathlib.Core.List.Permᴰ
use Rattle.std.specs.Cmp.{both_ways}
use Rattle.std.specs.List.{range_with_len, list_any}
use Rattle.paths.specs.declared.arc.Arc.{Arc}
use Rattle.paths.specs.Chains.{Mem}
use Rattle.paths.specs.Tables.{table}
use Rattle.paths.specs.Groups.{chained, group}
use Rattle.paths.proofs.Groups.{mem_perm, chained_perm, group_perm}
use Rattle.graphs.specs.Records.{no_wave}
use Rattle.plans.specs.Plans.{largest, planned, job, depends, in_set, wait, height, byte, jobs, waits, inside, between, skipped_between, counts}
use Rattle.plans.specs.Laws.{Alike, SamePlan}
use Rattle.plans.proofs.Meaning.{any_found, any_mem}
use Rattle.plans.proofs.Tallies.{filter_cons}

module _ {A : Type 0} (test : A → Bool) where
  any_alike : (xs ys : List A) → ((x : A) → Mem x xs → Mem x ys) → ((x : A) → Mem x ys → Mem x xs) → list_any test xs ≡ list_any test ys
  any_alike xs ys to from =
      both_ways (list_any test xs) (list_any test ys)
      (λ e. let r = any_found test xs e in any_mem test r.0 ys (to r.0 r.1) r.2)
      (λ e. let r = any_found test ys e in any_mem test r.0 xs (from r.0 r.1) r.2)

  abbrev one : A → ℕ
  one x = cond (test x) 1 0

  filter_perm : {xs ys : List A} → Permᴰ xs ys → length (filter test xs) ≡ length (filter test ys)
  filter_perm Permᴰ.nil = refl
  filter_perm (Permᴰ.cons {a} {b} {l₁ = xs} {l₂ = ys} e p) = omega (arith, filter_cons test a xs, filter_cons test b ys, ap one e, filter_perm p)
  filter_perm (Permᴰ.swap {a} {b} {a'} {b'} {l} e e') =
      omega (arith, filter_cons test a (b ∷ l), filter_cons test b l, filter_cons test a' (b' ∷ l), filter_cons test b' l, ap one e, ap one e')
  filter_perm (Permᴰ.trans p q) = filter_perm p ∙ filter_perm q

module _ {K : Type 0} (arcs : List (Arc K)) (n : ℕ) (ends : (a : Arc K) → Mem a arcs → (a.from < n) × (a.to < n)) (changed : List ℕ)
    (others : List (Arc K)) (again : List ℕ) (perm : Permᴰ arcs others) (alike : Alike changed again) where
  chained_same : (p q : ℕ) → chained arcs n p q ≡ chained others n p q
  chained_same = chained_perm arcs others n (λ a m. (ends a m).1) perm

  group_same : (p : ℕ) → group arcs n p ≡ group others n p
  group_same = group_perm arcs others n (λ a m. (ends a m).1) perm

  planned_same : (p : ℕ) → planned arcs n changed p ≡ planned others n again p
  planned_same p =
      any_alike (λ c. eqb p c || chained arcs n p c) changed again alike.0 alike.1
      ∙ ap (λ (test : ℕ → Bool). list_any test again) (λ i c. eqb p c || chained_same p c i)

  job_same : (a : ℕ) → job arcs n changed a ≡ job others n again a
  job_same a i = planned_same a i && eqb (group_same a i) a

  joined_same : (a b : ℕ) → list_any (λ e. eqb (group arcs n e.from) a && eqb (group arcs n e.to) b) arcs
      ≡ list_any (λ e. eqb (group others n e.from) a && eqb (group others n e.to) b) others
  joined_same a b =
      any_alike (λ e. eqb (group arcs n e.from) a && eqb (group arcs n e.to) b) arcs others (λ e. mem_perm e perm) (λ e. mem_perm e (Permᴰ.symm perm))
      ∙ ap (λ (test : Arc K → Bool). list_any test others) (λ i e. eqb (group_same e.from i) a && eqb (group_same e.to i) b)

  depends_same : (a b : ℕ) → depends arcs n changed a b ≡ depends others n again a b
  depends_same a b i = job_same a i && (job_same b i && (not (eqb a b) && joined_same a b i))

  set_same : (a b : ℕ) → in_set arcs n changed a b ≡ in_set others n again a b
  set_same a b i = job_same a i && (job_same b i && (not (eqb a b) && chained_same a b i))

  wait_same : (a b : ℕ) → wait arcs n changed a b ≡ wait others n again a b
  wait_same a b i = set_same a b i && not (list_any (λ c. set_same a c i && set_same c b i) (range_with_len 0 n))

  height_same : (k a : ℕ) → height arcs n changed k a ≡ height others n again k a
  height_same zero a = refl
  height_same (suc k) a = λ i. largest (map (λ b. cond (depends_same a b i) (suc (height_same k b i)) 0) (range_with_len 0 n))

  byte_same : (a b : ℕ) → byte arcs n changed a b ≡ byte others n again a b
  byte_same a b i = cond (wait_same a b i) 2 (cond (set_same a b i) 1 0)

  inside_same : (e : Arc K) → inside arcs n changed e ≡ inside others n again e
  inside_same e i = planned_same e.from i && planned_same e.to i

  between_same : (a b : ℕ) → between arcs n changed a b ≡ between others n again a b
  between_same a b =
      filter_perm (λ e. inside arcs n changed e && (eqb (group arcs n e.from) a && eqb (group arcs n e.to) b)) perm
      ∙ ap (λ (test : Arc K → Bool). length (filter test others)) (λ i e. inside_same e i && (eqb (group_same e.from i) a && eqb (group_same e.to i) b))

  passed_same : (a b : ℕ) → skipped_between arcs n changed a b ≡ skipped_between others n again a b
  passed_same a b i = cond (eqb a b) 0 (between_same a b i - cond (wait_same a b i) 1 0)

  inner_same : (counts arcs n changed).inner ≡ (counts others n again).inner
  inner_same =
      filter_perm (λ e. inside arcs n changed e && eqb (group arcs n e.from) (group arcs n e.to)) perm
      ∙ ap (λ (test : Arc K → Bool). length (filter test others)) (λ i e. inside_same e i && eqb (group_same e.from i) (group_same e.to i))

  jobs_same : jobs arcs n changed ≡ jobs others n again
  jobs_same i = filter (λ a. job_same a i) (range_with_len 0 n)

  waits_same : waits arcs n changed ≡ waits others n again
  waits_same i = filter (λ e. wait_same e.0 e.1 i) (table n (λ a b. (a, b)))

  counts_same : counts arcs n changed ≡ counts others n again
  counts_same i = record {
    jobs = length (jobs_same i);
    waves = largest (map (λ a. suc (height_same n a i)) (jobs_same i));
    merged = length (waits_same i);
    skipped = sum (table n (λ a b. passed_same a b i));
    inner = inner_same i;
  }

  same : SamePlan arcs n changed others again
  same = record {
    bytes = λ i. table n (λ a b. byte_same a b i);
    waves = λ p i. cond (planned_same p i) (height_same n (group_same p i) i) no_wave;
    counts = counts_same;
  }

module _ {K : Type 0} (arcs : List (Arc K)) (n : ℕ) (ends : (a : Arc K) → Mem a arcs → (a.from < n) × (a.to < n)) (changed : List ℕ) where
  pub same_plan : (others : List (Arc K)) (again : List ℕ) → Permᴰ arcs others → Alike changed again → SamePlan arcs n changed others again
  same_plan others again perm alike = same arcs n ends changed others again perm alike
