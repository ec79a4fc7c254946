-- What is counted over the records and the arcs is what the definitions of a plan say.
use Rattle.std.proofs.Common.{◌≡◌, ℕ, suc, ◌+◌, ◌-◌, ◌<◌, ◌≤◌, Bool, true, false, cond, not, ◌&&◌, eqb, List, [], ◌∷◌, map, filter, length, count_by, refl, sym, ap, ap₂, ◌∙◌, inl, inr, eq-eqb, ne_eqb, arith}
use Rattle.std.specs.List.{range_with_len}
use Rattle.std.proofs.lemmas.Nat.{mul-le}
use Rattle.labels.specs.Algebra.{Ops}
use Rattle.paths.specs.declared.arc.Arc.{Arc}
use Rattle.paths.specs.Chains.{Mem}
use Rattle.paths.specs.Groups.{group}
use Rattle.paths.proofs.Written.{length_table}
use Rattle.catalogue.specs.Meanings.{Meaning, Sound, in_force}
use Rattle.graphs.specs.declared.record.PackageRecord.{PackageRecord}
use Rattle.graphs.specs.Records.{no_wave, of}
use Rattle.graphs.proofs.Edges.{ends}
use Rattle.plans.specs.Plans.{largest, planned, job, wave, wave_of, byte, inside, counts}
use Rattle.plans.proofs.Largest.{of_range}
use Rattle.plans.proofs.Meaning.{job_planned, job_name}
use Rattle.plans.proofs.Heights.{wave_low}
use Rattle.plans.proofs.Tallies.{outer_split}
use Rattle.plans.proofs.LeastWaits.{twos_merged}
use Rattle.plan.specs.Planning.{Filled}
use Rattle.plan.specs.Tally.{waved, names_job, named_jobs, waves_told, taken, Countable, counted}
use Rattle.plan.proofs.Counting.{value, passed}

module _ {A : Type 0} where
  filter_same : (p q : A → Bool) (xs : List A) → ((x : A) → Mem x xs → p x ≡ q x) → filter p xs ≡ filter q xs
  filter_same p q [] h = refl
  filter_same p q (x ∷ xs) h = ap₂ (λ b ys. cond b (x ∷ ys) ys) (h x (inl refl)) (filter_same p q xs (λ y m. h y (inr m)))

  map_same : {B : Type 0} (f g : A → B) (xs : List A) → ((x : A) → Mem x xs → f x ≡ g x) → map f xs ≡ map g xs
  map_same f g [] h = refl
  map_same f g (x ∷ xs) h = ap₂ (λ y ys. y ∷ ys) (h x (inl refl)) (map_same f g xs (λ y m. h y (inr m)))

-- records with the groups and the waves of a plan
module _ {K : Type 0} (arcs : List (Arc K)) (n : ℕ) (ends : (a : Arc K) → Mem a arcs → (a.from < n) × (a.to < n))
    (changed : List ℕ) (known : (c : ℕ) → Mem c changed → c < n) (few : n ≤ 1024) (records : List PackageRecord) (long : length records ≡ n)
    (groups : (p : ℕ) → p < n → (of records p).group ≡ group arcs n p) (waves : (p : ℕ) → p < n → (of records p).wave ≡ wave_of arcs n changed p) where
  -- no wave of a job is the one that means none
  waved_planned : (p : ℕ) → p < n → waved records p ≡ planned arcs n changed p
  waved_planned p l = ap (λ w. not (eqb w no_wave)) (waves p l) ∙ by (planned arcs n changed p)
    where
      by : (b : Bool) → not (eqb (cond b (wave arcs n changed (group arcs n p)) no_wave) no_wave) ≡ b
      by true =
          let w : ℕ = wave arcs n changed (group arcs n p) in
          ap not (ne_eqb w no_wave (λ e. omega (arith, e, few, wave_low arcs n ends changed known (group arcs n p))))
      by false = ap not (eq-eqb no_wave no_wave refl)

  named_job : (p : ℕ) → p < n → names_job records p ≡ job arcs n changed p
  named_job p l = ap₂ ◌&&◌ (waved_planned p l) (ap (λ g. eqb g p) (groups p l))

  below : (p : ℕ) → Mem p (range_with_len 0 n) → p < n
  below p m = omega (arith, (of_range p 0 n m).1)

  pub jobs_counted : length (named_jobs records) ≡ (counts arcs n changed).jobs
  jobs_counted =
      ap (λ m. length (filter (names_job records) (range_with_len 0 m))) long
      ∙ ap length (filter_same (names_job records) (job arcs n changed) (range_with_len 0 n) (λ p m. named_job p (below p m)))

  job_wave : (p : ℕ) → p < n → value (names_job records) (λ x. (of records x).wave) p ≡ value (job arcs n changed) (wave arcs n changed) p
  job_wave p l =
      ap₂ (λ b w. cond b (w + 1) 0) (named_job p l) (waves p l)
      ∙ by (job arcs n changed p) (job_planned arcs n ends changed known p) (job_name arcs n ends changed known p)
    where
      by : (b : Bool) → (b ≡ true → planned arcs n changed p ≡ true) → (b ≡ true → group arcs n p ≡ p)
          → cond b (wave_of arcs n changed p + 1) 0 ≡ cond b (wave arcs n changed p + 1) 0
      by true in_plan own = ap₂ (λ b g. cond b (wave arcs n changed g) no_wave + 1) (in_plan refl) (own refl)
      by false in_plan own = refl

  pub waves_counted : waves_told records ≡ (counts arcs n changed).waves
  waves_counted =
      ap (λ m. largest (map (λ p. suc (of records p).wave) (filter (names_job records) (range_with_len 0 m)))) long
      ∙ passed (names_job records) (λ p. (of records p).wave) (range_with_len 0 n)
      ∙ ap largest
      (map_same (value (names_job records) (λ p. (of records p).wave)) (value (job arcs n changed) (wave arcs n changed)) (range_with_len 0 n)
      (λ p m. job_wave p (below p m)))
      ∙ sym (passed (job arcs n changed) (wave arcs n changed) (range_with_len 0 n))

  inside_same : (e : Arc K) → Mem e arcs → (waved records e.from && waved records e.to) ≡ inside arcs n changed e
  inside_same e m = let l = ends e m in ap₂ ◌&&◌ (waved_planned e.from l.0) (waved_planned e.to l.1)

  group_same : (e : Arc K) → Mem e arcs → eqb (of records e.from).group (of records e.to).group ≡ eqb (group arcs n e.from) (group arcs n e.to)
  group_same e m = let l = ends e m in ap₂ eqb (groups e.from l.0) (groups e.to l.1)

  pub inner_counted : length (filter (taken records true) arcs) ≡ (counts arcs n changed).inner
  inner_counted =
      ap length
      (filter_same (taken records true) (λ e. inside arcs n changed e && eqb (group arcs n e.from) (group arcs n e.to)) arcs
      (λ e m. ap₂ ◌&&◌ (inside_same e m) (group_same e m)))

  pub outer_counted : length (filter (taken records false) arcs) ≡ (counts arcs n changed).skipped + (counts arcs n changed).merged
  outer_counted =
      ap length
      (filter_same (taken records false) (λ e. inside arcs n changed e && not (eqb (group arcs n e.from) (group arcs n e.to))) arcs
      (λ e m. ap₂ ◌&&◌ (inside_same e m) (ap not (group_same e m))))
      ∙ outer_split arcs n ends changed known

-- what is counted of the records and the set table of a plan
pub record Tallied {K : Type 0} (m : Meaning K) (changed : List ℕ) (records : List PackageRecord) (sets : List ℕ) : Type 0 where
  pub fit : Countable m records sets
  pub is : counted (in_force m) records sets ≡ counts (in_force m) m.n changed

pub tallied : {K : Type 0} (o : Ops K) (m : Meaning K) → Sound o m → (changed : List ℕ) (records : List PackageRecord) (sets : List ℕ)
    → Filled (in_force m) m.n changed records sets → Tallied m changed records sets
tallied o m sound changed records sets f =
    let arcs = in_force m in
    let n = m.n in
    let at = ends m o sound in
    let most = sound.most in
    let jobs = jobs_counted arcs n at changed f.known most records f.long f.groups f.waves in
    let waves = waves_counted arcs n at changed f.known most records f.long f.groups f.waves in
    let merged : count_by (λ byte. eqb byte 2) sets ≡ (counts arcs n changed).merged = ap (count_by (λ byte. eqb byte 2)) f.sets_are ∙ twos_merged arcs n changed in
    let outer = outer_counted arcs n at changed f.known most records f.long f.groups f.waves in
    let inner = inner_counted arcs n at changed f.known most records f.long f.groups f.waves in
    let skipped : length (filter (taken records false) arcs) - count_by (λ byte. eqb byte 2) sets ≡ (counts arcs n changed).skipped = omega (arith, merged, outer) in
    record {
      fit = record {
        many = omega (arith, f.long);
        few = omega (arith, f.long, most);
        small = omega (arith, ap length f.sets_are, length_table n (byte arcs n changed), mul-le n n 1024 1024 most most);
        enough = omega (arith, merged, outer);
      };
      is = λ i. record { jobs = jobs i; waves = waves i; merged = merged i; skipped = skipped i; inner = inner i };
    }
