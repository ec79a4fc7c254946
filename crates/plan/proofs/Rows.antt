-- The row of a rank lists where its edges lead.
use Rattle.std.proofs.Common.{◌≡◌, ℕ, ◌+◌, ◌-◌, ◌<◌, ◌≤◌, List, length, get_or, refl, sym, ap, ◌∙◌, ⊎_elim, arith}
use Rattle.std.specs.List.{between, All}
use Rattle.std.proofs.lemmas.List.{get_or_past}
use Rattle.std.proofs.lemmas.Grind.{get_or_default_zero}
use Rattle.std.proofs.lemmas.List.Edits.{length-between, get_or-between}
use Rattle.std.proofs.lemmas.Bool.{cases_lt}
use Rattle.graphs.specs.Searches.{Graph, Edge}
use Rattle.graphs.proofs.Whole.{edge_head}
use Rattle.plans.specs.Steps.{Listed}

module _ (starts targets : List ℕ) (n r : ℕ) (rows : Graph starts targets n) where
  abbrev row : List ℕ
  row = between (get_or starts r 0) (get_or starts (r + 1) 0) targets

  -- a rank past the last has no row
  past : n ≤ r → get_or starts (r + 1) 0 ≡ 0
  past ge = get_or_past starts (r + 1) 0 (omega (arith, rows.long))

  -- the row's end is within the targets
  within : get_or starts (r + 1) 0 ≤ length targets
  within = ⊎_elim (λ lt. rows.within r lt) (λ ge. omega (arith, past ge)) (cases_lt r n)

  long : length row ≡ get_or starts (r + 1) 0 - get_or starts r 0
  long = length-between targets (get_or starts r 0) (get_or starts (r + 1) 0) within

  at : (k d : ℕ) → k < length row → get_or row k d ≡ get_or targets (get_or starts r 0 + k) d
  at k d h = get_or-between targets (get_or starts r 0) (get_or starts (r + 1) 0) k d (omega (arith, h, long))

  pub row_edge : (t : ℕ) → Listed row t → Edge starts targets r t
  row_edge t l = (get_or starts r 0 + l.0, omega arith, omega (arith, l.1, long), sym (at l.0 0 l.1) ∙ l.2)

  pub edge_row : (t : ℕ) → Edge starts targets r t → Listed row t
  edge_row t e =
      let k : ℕ = e.0 - get_or starts r 0 in
      let lt : k < length row = omega (arith, e.1, e.2, long) in
      (k, lt, at k 0 lt ∙ (ap (λ j. get_or targets j 0) (omega (arith, e.1)) ∙ e.3))

  -- with what follows from it by arithmetic, so that the search finds it
  pub row_inside : (xs : List ℕ) (k d m : ℕ) → n ≡ m → xs ≡ row → k < length xs → get_or xs k d < m
  row_inside xs k d m same e h =
      let lt : k < length row = omega (arith, h, ap length e) in
      let in_row : get_or row k 0 < n = edge_head starts targets n rows r (get_or row k 0) (row_edge (get_or row k 0) (k, lt, refl)) in
      omega (arith, ap (λ ys. get_or ys k d) e, get_or_default_zero row k d lt)
