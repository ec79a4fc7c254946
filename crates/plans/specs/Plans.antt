-- The plan of a release: which groups of packages are rebuilt, which wait for which, and in which wave.
use Rattle.std.specs.Prelude.{◌≡◌, ℕ, zero, suc, ◌-◌, Bool, cond, not, ◌&&◌, ◌||◌, List, [], ◌∷◌, map, filter, length, take, drop, sum, max, ◌==◌}
use Rattle.std.specs.List.{range_with_len, list_any}
use Rattle.paths.specs.declared.arc.Arc.{Arc}
use Rattle.paths.specs.Tables.{table}
use Rattle.paths.specs.Groups.{chained, group, groups}
use Rattle.graphs.specs.declared.record.PackageRecord.{PackageRecord}
use Rattle.graphs.specs.Records.{no_wave, of, Ranked}
use Rattle.plans.specs.declared.counts.PlanCounts.{PlanCounts}

-- the largest of a list, or 0
abbrev pub largest : List ℕ → ℕ
largest [] = 0
largest (x ∷ xs) = max x (largest xs)

module _ {K : Type 0} (arcs : List (Arc K)) (n : ℕ) (changed : List ℕ) where
  -- is p in the plan: changed, or does a chain lead from it to a changed package?
  abbrev pub planned : ℕ → Bool
  planned p = list_any (λ c. p == c || chained arcs n p c) changed

  -- is a the name of a job, a group with a package in the plan? If one package of a group is in it, all are
  abbrev pub job : ℕ → Bool
  job a = planned a && group arcs n a == a

  -- does an arc lead from job a to job b, another one?
  abbrev pub depends : ℕ → ℕ → Bool
  depends a b = job a && (job b && (not (a == b) && list_any (λ e. group arcs n e.from == a && group arcs n e.to == b) arcs))

  -- is job b in the set of job a: another one, to which a chain leads from a?
  abbrev pub in_set : ℕ → ℕ → Bool
  in_set a b = job a && (job b && (not (a == b) && chained arcs n a b))

  -- does job a wait for job b: is b in a's set, and in that of no job of a's set?
  abbrev pub wait : ℕ → ℕ → Bool
  wait a b = in_set a b && not (list_any (λ c. in_set a c && in_set c b) (range_with_len 0 n))

  -- the most arcs between jobs, up to k, that lead on from a, each starting at the job where the one before ended
  abbrev pub height : ℕ → ℕ → ℕ
  height zero a = 0
  height (suc k) a = largest (map (λ b. cond (depends a b) (suc (height k b)) 0) (range_with_len 0 n))

  -- the wave of a job: 0 without an arc to another job, else one more than the largest among their targets'
  abbrev pub wave : ℕ → ℕ
  wave a = height n a

  -- the wave in package p's record
  abbrev pub wave_of : ℕ → ℕ
  wave_of p = cond (planned p) (wave (group arcs n p)) no_wave

  -- the byte of the set table for jobs a and b
  abbrev pub byte : ℕ → ℕ → ℕ
  byte a b = cond (wait a b) 2 (cond (in_set a b) 1 0)

  -- all bytes, written out row by row
  abbrev pub bytes : List ℕ
  bytes = table n byte

  -- the names of the jobs, and their pairs of whom one waits for the other
  abbrev pub jobs : List ℕ
  jobs = filter job (range_with_len 0 n)

  abbrev pub waits : List (ℕ × ℕ)
  waits = filter (λ e. wait e.0 e.1) (table n (λ a b. (a, b)))

  -- has an arc both ends in the plan?
  abbrev pub inside : Arc K → Bool
  inside e = planned e.from && planned e.to

  abbrev pub arcs_inside : ℕ
  arcs_inside = length (filter inside arcs)

  -- the arcs in the plan from job a to job b
  abbrev pub between : ℕ → ℕ → ℕ
  between a b = length (filter (λ e. inside e && (group arcs n e.from == a && group arcs n e.to == b)) arcs)

  -- of these, where the jobs are two, those that are skipped: all, but for one where a waits for b
  abbrev pub skipped_between : ℕ → ℕ → ℕ
  skipped_between a b = cond (a == b) 0 (between a b - cond (wait a b) 1 0)

  abbrev pub counts : PlanCounts
  counts = record {
    jobs = length jobs;
    -- the largest wave and one, or 0 without jobs
    waves = largest (map (λ a. suc (wave a)) jobs);
    merged = length waits;
    skipped = sum (table n skipped_between);
    inner = length (filter (λ e. inside e && group arcs n e.from == group arcs n e.to) arcs);
  }

  -- what a plan makes of the records
  pub record Planned (old new : List PackageRecord) : Type 0 where
    pub groups : map (λ r. r.group) (take n new) ≡ groups arcs n
    pub waves : map (λ r. r.wave) (take n new) ≡ map wave_of (range_with_len 0 n)
    -- the records from n on are as they were
    pub beyond : drop n new ≡ drop n old
    pub ranks : Ranked arcs n (λ p. (of new p).rank)
