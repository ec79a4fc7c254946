-- The rows of ranks as the graph of the groups: an edge is an arc between their packages, and every arc is an edge.
use Rattle.std.proofs.Common.{◌≡◌, ℕ, ◌+◌, ◌<◌, ◌≤◌, eqb, List, length, take, get_or, refl, ◌∙◌, subst, ⊎_elim, arith}
use Rattle.std.specs.List.{range_with_len}
use Rattle.std.proofs.lemmas.Bool.{cases_lt}
use Rattle.std.proofs.lemmas.List.FromFn.{length-range_with_len}
use Rattle.std.proofs.lemmas.List.Sums.{length-filter, count_by-le-length}
use Rattle.std.proofs.lemmas.List.{get_or-take, get_or_past, length-take-le}
use Rattle.labels.specs.Algebra.{Ops}
use Rattle.paths.specs.declared.arc.Arc.{Arc}
use Rattle.paths.specs.Chains.{Mem}
use Rattle.paths.specs.Groups.{group, group_count}
use Rattle.catalogue.specs.Meanings.{Meaning, Sound, in_force}
use Rattle.catalogue.specs.Calls.{arc_at}
use Rattle.graphs.specs.Records.{Ranked}
use Rattle.graphs.specs.Rows.{ranks, Compressed}
use Rattle.graphs.specs.Searches.{Graph, Edge}
use Rattle.graphs.proofs.Edges.{ends, entry_from, entry_of}

module _ {K : Type 0} (m : Meaning K) (o : Ops K) (sound : Sound o m) (rank : ℕ → ℕ) (ranked : Ranked (in_force m) m.n rank)
    (starts cells : List ℕ) (c : Compressed (arc_at m) (ranks rank) m.n (length m.stock) starts cells) where
  abbrev g : ℕ
  g = group_count (in_force m) m.n

  -- the rows of the ranks
  abbrev pub front : List ℕ
  front = take (g + 1) starts

  pub few : g ≤ m.n
  few = omega (arith, length-filter (λ p. eqb (group (in_force m) m.n p) p) (range_with_len 0 m.n), count_by-le-length (λ p. eqb (group (in_force m) m.n p) p) (range_with_len 0 m.n), length-range_with_len 0 m.n)

  at : (i : ℕ) → i ≤ g → get_or front i 0 ≡ get_or starts i 0
  at i h = get_or-take (g + 1) starts i 0 (omega (arith, h))

  edge_all : (r t : ℕ) → Edge front cells r t → (r < g) × Edge starts cells r t
  edge_all r t e =
      ⊎_elim
      (λ (lt : r < g). (lt, (e.0, omega (arith, e.1, at r (omega (arith, lt))), omega (arith, e.2, at (r + 1) (omega (arith, lt))), e.3)))
      (λ (ge : g ≤ r). absurd (omega (arith, e.2, get_or_past front (r + 1) 0 (omega (arith, ge, length-take-le (g + 1) starts (omega (arith, few, c.long)))))))
      (cases_lt r g)

  pub edge_to : (r t : ℕ) → Edge front cells r t → (a : Arc K) × Mem a (in_force m) × (rank a.from ≡ r) × (rank a.to ≡ t)
  edge_to r t e =
      let f = edge_all r t e in
      let x = entry_from m (ranks rank) starts cells c r f.1.0 f.1.1 f.1.2 in
      (x.1, x.4, x.5, x.6 ∙ f.1.3)

  pub edge_of : (a : Arc K) → Mem a (in_force m) → Edge front cells (rank a.from) (rank a.to)
  edge_of a h =
      let b = ranked.below a.from (ends m o sound a h).0 in
      let x = (entry_of m (ranks rank) starts cells c a (omega (arith, b, few)) h).2 in
      (x.0, omega (arith, x.1, at (rank a.from) (omega (arith, b))), omega (arith, x.2, at (rank a.from + 1) (omega (arith, b))), x.3)

  pub graph : Graph front cells g
  graph = record {
    long = length-take-le (g + 1) starts (omega (arith, few, c.long));
    small = omega (arith, few, sound.most);
    rising = λ p h. omega (arith, c.rising p (omega (arith, h, few)), at p (omega (arith, h)), at (p + 1) (omega (arith, h)));
    within = λ p h. omega (arith, c.within p (omega (arith, h, few)), at (p + 1) (omega (arith, h)));
    heads = λ p k h low high.
        let e = edge_to p (get_or cells k 0) (k, low, high, refl) in
        subst (λ y. y < g) e.3 (ranked.below e.0.to (ends m o sound e.0 e.1).1);
  }
