-- How marks spread over the ranks, by rising rank.
use Rattle.std.proofs.Common.{◌≡◌, ℕ, ◌+◌, ◌<◌, ◌⊎◌, List, length, get_or, refl, sym, subst, ⊎_elim, arith}
use Rattle.std.specs.List.{between}
use Rattle.std.proofs.lemmas.Bool.{cases_lt}
use Rattle.graphs.specs.Searches.{Graph, Edge, Marked, here, step}
use Rattle.plans.specs.Steps.{Falling, Listed, Spreads}
use Rattle.plan.specs.Tables.{Follows}
use Rattle.plan.proofs.Rows.{row_edge, edge_row, row_inside}

-- before any rank is taken only the seeds have marks
pub spreads_none : (E Seed : ℕ → ℕ → Type 0) (live : List ℕ) → ((c t : ℕ) → Seed c t → Marked live t)
    → ((t : ℕ) → Marked live t → (c : ℕ) × Seed c t) → Spreads E Seed 0 live
spreads_none E Seed live seeds sound = record {
  seeds = seeds;
  back = λ u t h e m. absurd (omega (arith, h));
  sound = λ t m. let s = sound t m in (s.0, t, s.1, here);
}

-- a further rank is taken
pub spreads_next : (starts targets : List ℕ) (Seed : ℕ → ℕ → Type 0) (r n : ℕ) (live live' row : List ℕ)
    → Spreads (Edge starts targets) Seed r live → Follows row r live live'
    → Graph starts targets n → Falling (Edge starts targets) n
    → row ≡ between (get_or starts r 0) (get_or starts (r + 1) 0) targets → Spreads (Edge starts targets) Seed (r + 1) live'
spreads_next starts targets Seed r n live live' row s f rows falling is = record {
  seeds = λ c t h. f.kept t (s.seeds c t h);
  back = λ u t h e m.
      ⊎_elim
      (λ old. before u t h e old)
      (λ new. let at : r ≡ u = omega (arith, falling.falls u t e, new.3) in subst (Marked live') at (f.full new.0 new.1 new.2))
      (f.sound t m);
  sound = λ t m.
      ⊎_elim
      (λ old. s.sound t old)
      (λ new.
      let target : ℕ = get_or row new.0 0 in
      let w = s.sound target new.2 in
      (w.0, w.1, w.2, step (subst (λ x. Edge starts targets x target) (sym new.3) (leads target (new.0, new.1, refl))) w.3))
      (f.sound t m);
} where
  leads : (t : ℕ) → Listed row t → Edge starts targets r t
  leads t l = row_edge starts targets n r rows t (subst (λ xs. Listed xs t) is l)

  listed : (t : ℕ) → Edge starts targets r t → Listed row t
  listed t e = subst (λ xs. Listed xs t) (sym is) (edge_row starts targets n r rows t e)

  -- an edge to a rank that was marked before
  before : (u t : ℕ) → u < r + 1 → Edge starts targets u t → Marked live t → Marked live' u
  before u t h e m =
      ⊎_elim
      (λ lt. f.kept u (s.back u t lt e m))
      (λ ge.
      let at : r ≡ u = omega arith in
      let l = listed t (subst (λ x. Edge starts targets x t) (sym at) e) in
      subst (Marked live') at (f.full l.0 l.1 (subst (Marked live) (sym l.2) m)))
      (cases_lt u r)

pub ruleset by_rank = (spreads_none, spreads_next, row_inside)
