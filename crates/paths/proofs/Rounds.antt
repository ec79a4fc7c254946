-- A round needs only what the round before changed.
use Rattle.std.proofs.Common.{◌≡◌, ℕ, suc, ◌<◌, List, sym, ap, ◌∙◌}
use Rattle.labels.specs.Algebra.{Ops, Laws}
use Rattle.paths.specs.Chains.{Arc, Mem, L}
use Rattle.paths.specs.Tables.{before}
use Rattle.paths.proofs.Steps.{unit, stay, L_step, before_cong, before_join}

module _ {K : Type 0} (o : Ops K) (laws : Laws o) (arcs : List (Arc K)) where
  -- D is what the round to m + 1 added, or more: join(L(m), D) = L(m + 1)
  pub round_step : (n m : ℕ) (D : ℕ → ℕ → K) → ((a : Arc K) → Mem a arcs → a.to < n)
      → ((i j : ℕ) → i < n → j < n → o.join (L o arcs m i j) (D i j) ≡ L o arcs (suc m) i j)
      → (i j : ℕ) → j < n → L o arcs (suc (suc m)) i j ≡ o.join (L o arcs (suc m) i j) (before o arcs D i j)
  round_step n m D ends made i j hj =
      L_step o laws arcs (suc m) i j
      ∙ before_cong o laws arcs (stay o arcs (suc m)) (λ p q. o.join (stay o arcs m p q) (D p q)) i j
      (λ a h. ap (o.join (unit o a.to j)) (sym (made a.to j (ends a h) hj)) ∙ sym (laws.join_assoc (unit o a.to j) (L o arcs m a.to j) (D a.to j)))
      ∙ before_join o laws arcs (stay o arcs m) D i j
      ∙ ap (λ x. o.join x (before o arcs D i j)) (sym (L_step o laws arcs m i j))
