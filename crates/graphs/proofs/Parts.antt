-- Parts of an order, and rows as parts of the targets.
use Rattle.std.proofs.Common.{◌≡◌, ℕ, ◌+◌, ◌-◌, ◌<◌, ◌≤◌, List, length, get_or, sym, ap, ◌∙◌, subst, arith}
use Rattle.std.proofs.lemmas.List.Edits.{length-between, get_or-between}
use Rattle.std.specs.List.{between}
use Rattle.graphs.specs.Searches.{Graph, Edge}

-- what holds of a part of a list holds of its places there
module _ (o : List ℕ) (c c' : ℕ) (room : c' ≤ length o) where
  part_at : (j : ℕ) → c ≤ j → j < c' → get_or (between c c' o) (j - c) 0 ≡ get_or o j 0
  part_at j l h =
      let e : c + (j - c) ≡ j = omega arith in
      get_or-between o c c' (j - c) 0 (omega arith) ∙ ap (λ x. get_or o x 0) e

  pub part_place : (i : ℕ) → i < length (between c c' o) → (j : ℕ) × (c ≤ j) × (j < c') × (get_or o j 0 ≡ get_or (between c c' o) i 0)
  part_place i h =
      let lt : i < c' - c = omega (arith, h, length-between o c c' room) in
      (c + i, omega arith, omega (arith, lt), sym (get_or-between o c c' i 0 (omega (arith, lt))))

  pub all_from : (P : ℕ → Type 0) → ((i : ℕ) → i < length (between c c' o) → P (get_or (between c c' o) i 0)) → (j : ℕ) → c ≤ j → j < c' → P (get_or o j 0)
  all_from P all j l h = subst P (part_at j l h) (all (j - c) (omega (arith, length-between o c c' room)))

  pub all_of : (P : ℕ → Type 0) → ((j : ℕ) → c ≤ j → j < c' → P (get_or o j 0)) → (i : ℕ) → i < length (between c c' o) → P (get_or (between c c' o) i 0)
  all_of P all i h = let l = part_place i h in subst P l.3 (all l.0 l.1 l.2)

module _ (starts targets : List ℕ) (n p : ℕ) (rows : Graph starts targets n) (inside : p < n) where
  -- an edge leads from the row's package to what stands in the row, and the other way round
  pub row_edge : (i : ℕ) → i < length (between (get_or starts p 0) (get_or starts (p + 1) 0) targets) → Edge starts targets p (get_or (between (get_or starts p 0) (get_or starts (p + 1) 0) targets) i 0)
  row_edge i h = part_place targets (get_or starts p 0) (get_or starts (p + 1) 0) (rows.within p inside) i h

  pub all_edges : (P : ℕ → Type 0) → ((i : ℕ) → i < length (between (get_or starts p 0) (get_or starts (p + 1) 0) targets) → P (get_or (between (get_or starts p 0) (get_or starts (p + 1) 0) targets) i 0)) → (q : ℕ) → Edge starts targets p q → P q
  all_edges P all q e = subst P e.3 (all_from targets (get_or starts p 0) (get_or starts (p + 1) 0) (rows.within p inside) P all e.0 e.1 e.2)
