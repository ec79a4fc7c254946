-- From what sort and the rows leave to what planning over the groups requires, and from what that leaves to the plan.
use Rattle.std.proofs.Common.{◌≡◌, ℕ, zero, suc, ◌+◌, ◌*◌, ◌<◌, ◌≤◌, true, false, cond, List, [], ◌∷◌, ◌++◌, map, take, drop, length, get_or, Ok, Err, sym, refl, ap, ◌∙◌, subst, inl, inr, arith, eq-eqb, ne_eqb}
use Rattle.std.specs.List.{range_with_len}
use Rattle.std.proofs.Math.ListN.{drop_of_length-le}
use Rattle.std.proofs.lemmas.Bool.{cases_eq, false_from_ne_true, or_parts, ltb-false}
use Rattle.graphs.proofs.SortedParts.{ranked_as}
use Rattle.std.proofs.lemmas.List.{ext_get_or, get_or-map, get_or-take, length-map, length-take, length-take-le}
use Rattle.std.proofs.lemmas.List.FromFn.{length-map-range_with_len, get_or-map-range_with_len}
use Rattle.std.specs.Result.{result_unwrap_or}
use Rattle.labels.specs.Algebra.{Ops}
use Rattle.paths.specs.declared.arc.Arc.{Arc}
use Rattle.paths.specs.Chains.{Mem}
use Rattle.paths.specs.Groups.{group, group_count}
use Rattle.paths.proofs.Groups.{groups_at}
use Rattle.catalogue.specs.Meanings.{Meaning, Sound, in_force}
use Rattle.catalogue.specs.Calls.{arc_at}
use Rattle.graphs.specs.Records.{blank, of, Sorted, no_wave}
use Rattle.graphs.specs.declared.record.PackageRecord.{PackageRecord}
use Rattle.graphs.specs.Answers.{lacks, sort_answer}
use Rattle.graphs.specs.Rows.{ranks, Compressed}
use Rattle.graphs.specs.Searches.{Graph, Edge, Marked}
use Rattle.graphs.proofs.Edges.{ends}
use Rattle.plans.specs.Plans.{planned, wave, wave_of, bytes, Planned}
use Rattle.plans.specs.Answers.{changed_answer}
use Rattle.plans.specs.Steps.{Listed, Falling}
use Rattle.plans.proofs.Changed.{changed_known}
use Rattle.plans.proofs.Meaning.{group_below}
use Rattle.plans.proofs.PlannedParts.{planned_part}
use Rattle.plans.proofs.Condensing as condensing
use Rattle.plans.proofs.Linking as linking
use Rattle.plan.specs.Tables.{Seed}
use Rattle.plan.specs.Planning.{Laid, Filled, Placed}

listed_mem : (xs : List ℕ) (c : ℕ) → Listed xs c → Mem c xs
listed_mem [] c w = absurd (omega (arith, w.1))
listed_mem (x ∷ xs) c (zero, l, e) = inl (sym e)
listed_mem (x ∷ xs) c (suc k, l, e) = inr (listed_mem xs c (k, omega (arith, l), e))

mem_listed : (xs : List ℕ) (c : ℕ) → Mem c xs → Listed xs c
mem_listed [] c m = elim m [ ]
mem_listed (x ∷ xs) c (inl e) = (0, omega arith, sym e)
mem_listed (x ∷ xs) c (inr m) = let w = mem_listed xs c m in (suc w.0, omega (arith, w.1), w.2)

-- sort answers the number of groups
pub groups_told : {K : Type 0} (m : Meaning K) (g records words : ℕ) → lacks m records words ≡ false → Ok g ≡ sort_answer m records words → g ≡ group_count (in_force m) m.n
groups_told m g records words enough e =
    ap (λ r. result_unwrap_or r 0) (e ∙ ap (λ b. cond b (Err 13) (Ok (group_count (in_force m) m.n))) enough)

pub words_enough : {K : Type 0} (m : Meaning K) (records words : ℕ) → lacks m records words ≡ false → 16 * m.n + length m.stock ≤ words
words_enough m records words e = ltb-false words (16 * m.n + length m.stock) (or_parts _ _ e).1

-- planned in the first records of more
pub planned_first : {K : Type 0} (arcs : List (Arc K)) (n : ℕ) (changed : List ℕ) (k : ℕ) (old part : List PackageRecord)
    → Placed arcs n changed (take k old) part → k ≡ n → Planned arcs n changed old (part ++ drop k old)
unfolding Placed
planned_first arcs n changed k old part p is =
    planned_part arcs n p.0 changed k old part (omega (arith, is)) (omega (arith, is, p.1, length-take k old)) (omega (arith, p.2, is)) p.3

module _ {K : Type 0} (o : Ops K) (m : Meaning K) (sound : Sound o m) (changed : List ℕ) (taken : changed_answer m changed ≡ Ok tt)
    (old rs : List PackageRecord) (s : Sorted (in_force m) m.n old rs) (long : length rs ≡ m.n)
    (starts cells : List ℕ) (c : Compressed (arc_at m) (ranks (λ p. (of rs p).rank)) m.n (length m.stock) starts cells) where
  abbrev arcs : List (Arc K)
  arcs = in_force m

  abbrev rank : ℕ → ℕ
  rank p = (of rs p).rank

  abbrev G : ℕ
  G = group_count arcs m.n

  abbrev E : ℕ → ℕ → Type 0
  E = Edge (take (G + 1) starts) cells

  known : (x : ℕ) → Mem x changed → x < m.n
  known = changed_known m changed taken

  named : (p : ℕ) → p < m.n → (of rs p).group ≡ group arcs m.n p
  named p h =
      sym (get_or-map (λ r. r.group) (take m.n rs) p blank 0 (omega (arith, h, length-take-le m.n rs (omega (arith, long)))) ∙ ap (λ r. r.group) (get_or-take m.n rs p blank h))
      ∙ ap (λ xs. get_or xs p 0) s.groups ∙ groups_at arcs m.n (ends m o sound) p h

  edge_to : (r t : ℕ) → E r t → (a : Arc K) × Mem a arcs × (rank a.from ≡ r) × (rank a.to ≡ t)
  edge_to = condensing.edge_to m o sound rank s.ranks starts cells c

  edge_of : (a : Arc K) → Mem a arcs → E (rank a.from) (rank a.to)
  edge_of = condensing.edge_of m o sound rank s.ranks starts cells c

  module _ (g : ℕ) (is : g ≡ G) where
    pub long_enough : g + 1 ≤ length starts
    long_enough = omega (arith, is, c.long, condensing.few m o sound rank s.ranks starts cells c)

    pub few : g ≤ m.n
    few = omega (arith, is, condensing.few m o sound rank s.ranks starts cells c)

    pub rows : Graph (take (g + 1) starts) cells g
    rows = subst (λ k. Graph (take (k + 1) starts) cells k) (sym is) (condensing.graph m o sound rank s.ranks starts cells c)

    pub falling : Falling (Edge (take (g + 1) starts) cells) g
    falling = subst (λ k. Falling (Edge (take (k + 1) starts) cells) k) (sym is) (linking.falling arcs m.n (ends m o sound) changed known rank s.ranks E edge_to edge_of)

    pub below : (p : ℕ) → p < length rs → rank p < g
    below p h = omega (arith, s.ranks.below p (omega (arith, h, long)), is)

    pub used : (k : ℕ) → k < g → (p : ℕ) × (p < length rs) × (rank p ≡ k)
    used k h = let u = s.ranks.used k (omega (arith, h, is)) in (u.0, omega (arith, u.1, long), u.2)

    pub same : (p q : ℕ) → p < length rs → q < length rs → rank p ≡ rank q → (of rs p).group ≡ (of rs q).group
    same p q h k e = named p (omega (arith, h, long)) ∙ s.ranks.apart p q (omega (arith, h, long)) (omega (arith, k, long)) e ∙ sym (named q (omega (arith, k, long)))

    pub apart : (p q : ℕ) → p < length rs → q < length rs → (of rs p).group ≡ (of rs q).group → rank p ≡ rank q
    apart p q h k e = s.ranks.same p q (omega (arith, h, long)) (omega (arith, k, long)) (sym (named p (omega (arith, h, long))) ∙ e ∙ named q (omega (arith, k, long)))

    pub inside : (p : ℕ) → p < length rs → (of rs p).group < length rs
    inside p h = omega (arith, named p (omega (arith, h, long)), group_below arcs m.n (ends m o sound) changed known p (omega (arith, h, long)), long)

    pub listed : (k : ℕ) → k < length changed → get_or changed k 0 < length rs
    listed k h = omega (arith, known (get_or changed k 0) (listed_mem changed (get_or changed k 0) (k, h, refl)), long)

    module _ (new : List PackageRecord) (sets : List ℕ) (same_length : length new ≡ length rs) (table : length sets ≡ length rs * length rs)
        (told : Laid (Edge (take (g + 1) starts) cells) g (length rs) changed rs new sets) where
      laid : Laid E G m.n changed rs new sets
      laid = subst (λ n. Laid E G n changed rs new sets) long (subst (λ k. Laid (Edge (take (k + 1) starts) cells) k (length rs) changed rs new sets) is told)

      names_is : (p : ℕ) → p < m.n → get_or laid.names (rank p) 0 ≡ group arcs m.n p
      names_is p h = laid.named p (omega (arith, h, long)) ∙ named p h

      seed_to : (x t : ℕ) → Seed rs changed x t → Mem x changed × (rank x ≡ t)
      seed_to x t h = (listed_mem changed x h.0, h.1)

      seed_of : (x : ℕ) → Mem x changed → Seed rs changed x (rank x)
      seed_of x h = (mem_listed changed x h, refl)

      pub sets_are : sets ≡ bytes arcs m.n changed
      sets_are = linking.sets_is arcs m.n (ends m o sound) changed known rank s.ranks E edge_to edge_of laid.names laid.long names_is
          laid.live (Seed rs changed) seed_to seed_of laid.spreads laid.waves sets laid.built (table ∙ ap (λ k. k * k) long)

      live_is : (p : ℕ) → p < m.n → Marked laid.live (rank p) → planned arcs m.n changed p ≡ true
      live_is = linking.live_is arcs m.n (ends m o sound) changed known rank s.ranks E edge_to edge_of laid.names laid.long names_is
          laid.live (Seed rs changed) seed_to seed_of laid.spreads

      live_all : (p : ℕ) → p < m.n → planned arcs m.n changed p ≡ true → Marked laid.live (rank p)
      live_all = linking.live_all arcs m.n (ends m o sound) changed known rank s.ranks E edge_to edge_of laid.names laid.long names_is
          laid.live (Seed rs changed) seed_to seed_of laid.spreads

      wave_at_is : (p : ℕ) → p < m.n → Marked laid.live (rank p) → get_or laid.waves (rank p) 0 ≡ wave arcs m.n changed (group arcs m.n p)
      wave_at_is = linking.wave_is arcs m.n (ends m o sound) changed known rank s.ranks E edge_to edge_of laid.names laid.long names_is
          laid.live (Seed rs changed) seed_to seed_of laid.spreads laid.waves sets laid.built

      group_is : (p : ℕ) → p < m.n → (of new p).group ≡ group arcs m.n p
      group_is p h = ap (λ r. r.group) (laid.entered p h) ∙ named p h

      rank_is : (p : ℕ) → p < m.n → (of new p).rank ≡ rank p
      rank_is p h = ap (λ r. r.rank) (laid.entered p h)

      wave_is : (p : ℕ) → p < m.n → (of new p).wave ≡ wave_of arcs m.n changed p
      wave_is p h =
          ap (λ r. r.wave) (laid.entered p h)
          ∙ elim (cases_eq (get_or laid.live (rank p) 0) 0) [
            | inl z ↦ ap (λ b. cond b no_wave (get_or laid.waves (rank p) 0)) (eq-eqb (get_or laid.live (rank p) 0) 0 z) ∙ sym (ap (λ b. cond b (wave arcs m.n changed (group arcs m.n p)) no_wave) (false_from_ne_true (planned arcs m.n changed p) (λ t. omega (arith, z, live_all p h t))))
            | inr ne ↦ ap (λ b. cond b no_wave (get_or laid.waves (rank p) 0)) (ne_eqb (get_or laid.live (rank p) 0) 0 ne) ∙ wave_at_is p h (omega (arith, ne)) ∙ sym (ap (λ b. cond b (wave arcs m.n changed (group arcs m.n p)) no_wave) (live_is p h (omega (arith, ne))))
          ]

      pub filled : Filled arcs m.n changed new sets
      filled = record { known = known; long = same_length ∙ long; groups = group_is; waves = wave_is; sets_are = sets_are }

      -- the records, each read by f
      read : (f : PackageRecord → ℕ) (made : ℕ → ℕ) → ((p : ℕ) → p < m.n → f (of new p) ≡ made p) → map f (take m.n new) ≡ map made (range_with_len 0 m.n)
      read f made is =
          let all : length (take m.n new) ≡ m.n = length-take-le m.n new (omega (arith, same_length, long)) in
          let long' : length (map f (take m.n new)) ≡ m.n = length-map (take m.n new) f ∙ all in
          ext_get_or 0 (map f (take m.n new)) (map made (range_with_len 0 m.n)) (long' ∙ sym (length-map-range_with_len made 0 m.n)) (λ p lt.
          let h : p < m.n = omega (arith, lt, long') in
          get_or-map f (take m.n new) p blank 0 (omega (arith, h, all))
          ∙ ap f (get_or-take m.n new p blank h) ∙ is p h
          ∙ sym (get_or-map-range_with_len made 0 m.n p p 0 h (omega arith)))

      pub plan_is : length old ≡ m.n → Planned arcs m.n changed old new
      plan_is whole = record {
        groups = read (λ r. r.group) (group arcs m.n) group_is;
        waves = read (λ r. r.wave) (wave_of arcs m.n changed) wave_is;
        beyond = drop_of_length-le new (omega (arith, same_length, long)) ∙ sym (drop_of_length-le old (omega (arith, whole)));
        ranks = ranked_as arcs m.n (ends m o sound) rank (λ p. (of new p).rank) (λ p h. sym (rank_is p h)) s.ranks;
      }
