-- The waits and waves of a plan, as its buffers have them.
use Rattle.std.proofs.Common.{◌≡◌, ℕ, ◌+◌, ◌*◌, ◌<◌, ◌≤◌, Bool, true, false, cond, eqb, List, ◌++◌, map, length, get_or, take, count_by, refl, sym, ap, ◌∙◌, subst, arith}
use Rattle.std.specs.List.{range_with_len}
use Rattle.std.proofs.lemmas.List.{get_or_append_left, get_or-map, get_or-take, length-take-le, take_at}
use Rattle.std.proofs.lemmas.List.FromFn.{get_or-map-range_with_len}
use Rattle.std.proofs.lemmas.Nat.{mul-add-lt}
use Rattle.paths.specs.declared.arc.Arc.{Arc}
use Rattle.paths.specs.Chains.{Mem}
use Rattle.paths.specs.Groups.{group}
use Rattle.paths.proofs.Written.{length_table, get_or_table}
use Rattle.graphs.specs.declared.record.PackageRecord.{PackageRecord}
use Rattle.graphs.specs.Records.{no_wave, blank, of}
use Rattle.plans.specs.declared.counts.PlanCounts.{PlanCounts}
use Rattle.plans.specs.Plans.{planned, job, in_set, wait, wave, wave_of, byte, bytes, arcs_inside, counts, Planned}
use Rattle.plans.specs.Relations.{Same}
use Rattle.plans.specs.Laws.{Depends, Waits}
use Rattle.plans.specs.LeastWaits.{WaitBytes, LeastWaits}
use Rattle.plans.proofs.Meaning.{job_inside, job_planned, job_name, depends_from, depends_to, set_from, set_to, connects_set, wait_sound}
use Rattle.plans.proofs.Reduction.{connects_one, connects_over}
use Rattle.plans.proofs.Tallies.{over, sum_table, merged_pairs}
use Rattle.plans.proofs.Laws.{plan_laws}

byte_wait : (w s : Bool) → cond {A = ℕ} w 2 (cond s 1 0) ≡ 2 → w ≡ true
byte_wait true s e = refl
byte_wait false true e = absurd (omega (arith, e))
byte_wait false false e = absurd (omega (arith, e))

pub is_two : (w s : Bool) → eqb (cond w 2 (cond s 1 0)) 2 ≡ w
is_two true s = refl
is_two false true = refl
is_two false false = refl

module _ {K : Type 0} (arcs : List (Arc K)) (n : ℕ) (changed : List ℕ) where
  -- the bytes that are 2 are as many as the waits
  pub twos_merged : count_by (λ byte. eqb byte 2) (bytes arcs n changed) ≡ (counts arcs n changed).merged
  twos_merged =
      sum_table (λ x. cond (eqb x 2) 1 0) n (byte arcs n changed)
      ∙ ap (λ (f : ℕ → ℕ → Bool). over n (λ a b. cond (f a b) 1 0)) (λ i a b. is_two (wait arcs n changed a b) (in_set arcs n changed a b) i)
      ∙ sym (merged_pairs arcs n changed)

module _ {K : Type 0} (arcs : List (Arc K)) (n : ℕ) (ends : (a : Arc K) → Mem a arcs → (a.from < n) × (a.to < n))
    (changed : List ℕ) (known : (c : ℕ) → Mem c changed → c < n) where
  module _ (sets tail : List ℕ) (left : sets ≡ bytes arcs n changed ++ tail) where
    pub cell_is : (a b : ℕ) → a < n → b < n → get_or sets (a * n + b) 0 ≡ byte arcs n changed a b
    cell_is a b ha hb =
        ap (λ xs. get_or xs (a * n + b) 0) left
        ∙ get_or_append_left (bytes arcs n changed) tail 0 (a * n + b) (omega (arith, length_table n (byte arcs n changed), mul-add-lt a n b n ha hb))
        ∙ get_or_table n (byte arcs n changed) a b 0 ha hb

    twos_wait : (a b : ℕ) → WaitBytes n sets a b → Waits arcs n changed a b
    twos_wait a b h = byte_wait (wait arcs n changed a b) (in_set arcs n changed a b) (sym (cell_is a b h.0 h.1) ∙ h.2)

    wait_twos : (a b : ℕ) → Waits arcs n changed a b → WaitBytes n sets a b
    wait_twos a b h =
        let s = connects_set arcs n ends changed known a b (wait_sound arcs n ends changed known a b h).0 in
        let ha : a < n = job_inside arcs n ends changed known a (set_from arcs n ends changed known a b s) in
        let hb : b < n = job_inside arcs n ends changed known b (set_to arcs n ends changed known a b s) in
        (ha, hb, cell_is a b ha hb ∙ ap (λ w. cond w 2 (cond (in_set arcs n changed a b) 1 0)) h)

    same_left : Same (Depends arcs n changed) (Waits arcs n changed) → Same (Depends arcs n changed) (WaitBytes n sets)
    same_left same = (
      λ a b c. connects_over a b (λ x y w. connects_one (WaitBytes n sets) x y (wait_twos x y w)) (same.0 a b c),
      λ a b c. same.1 a b (connects_over a b (λ x y w. connects_one (Waits arcs n changed) x y (twos_wait x y w)) c),
    )

    merged_left : (counts arcs n changed).merged ≡ count_by (λ byte. eqb byte 2) (take (n * n) sets)
    merged_left =
        sym (twos_merged arcs n changed)
        ∙ ap (count_by (λ byte. eqb byte 2))
        (sym (take_at (bytes arcs n changed) tail (n * n) (length_table n (byte arcs n changed))) ∙ ap (take (n * n)) (sym left))

  module _ (old new : List PackageRecord) (many : n ≤ length new) (made : Planned arcs n changed old new) where
    -- what stands in p's record
    pub read : (f : PackageRecord → ℕ) (value : ℕ → ℕ) → map f (take n new) ≡ map value (range_with_len 0 n)
        → (p : ℕ) → p < n → f (of new p) ≡ value p
    read f value e p h =
        ap f (sym (get_or-take n new p blank h))
        ∙ sym (get_or-map f (take n new) p blank 0 (omega (arith, h, length-take-le n new many)))
        ∙ ap (λ xs. get_or xs p 0) e
        ∙ get_or-map-range_with_len value 0 n p p 0 h (omega arith)

    wave_read : (p : ℕ) → p < n → planned arcs n changed p ≡ true → (of new p).wave ≡ wave arcs n changed (group arcs n p)
    wave_read p h e = read (λ r. r.wave) (wave_of arcs n changed) made.waves p h ∙ ap (λ b. cond b (wave arcs n changed (group arcs n p)) no_wave) e

    wave_job : (a : ℕ) → job arcs n changed a ≡ true → (of new a).wave ≡ wave arcs n changed a
    wave_job a h =
        wave_read a (job_inside arcs n ends changed known a h) (job_planned arcs n ends changed known a h)
        ∙ ap (wave arcs n changed) (job_name arcs n ends changed known a h)

  pub least_waits : (sets tail : List ℕ) (old new : List PackageRecord) (told : PlanCounts)
      → sets ≡ bytes arcs n changed ++ tail → n ≤ length new → Planned arcs n changed old new → told ≡ counts arcs n changed → LeastWaits arcs n changed sets new told
  least_waits sets tail old new told left many made is = let laws = plan_laws arcs n ends changed known in record {
    same = same_left sets tail left laws.same;
    least = λ test same a b t. laws.least test same a b (twos_wait sets tail left a b t);
    above = λ a b d.
        omega (
          arith,
          laws.waves.above a b d,
          wave_job old new many made a (depends_from arcs n ends changed known a b d),
          wave_job old new many made b (depends_to arcs n ends changed known a b d),
        );
    lowest = λ num up p h e.
        omega (
          arith,
          laws.lowest num up (group arcs n p),
          wave_read old new many made p h e,
          ap num (read old new many made (λ r. r.group) (group arcs n) made.groups p h),
        );
    add_up = subst (λ c. arcs_inside arcs n changed ≡ c.merged + c.skipped + c.inner) (sym is) laws.add_up;
    merged = ap (λ c. c.merged) is ∙ merged_left sets tail left;
  }
