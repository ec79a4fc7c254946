-- What is true of a table that holds L(n).
use Rattle.std.proofs.Common.{◌≡◌, ℕ, ◌<◌, ◌≤◌, max, List, sym, ap, ◌∙◌, subst, arith}
use Rattle.labels.specs.Algebra.{Ops, Laws, Absorbs}
use Rattle.paths.specs.Chains.{Arc, Mem, L, label_of, Still}
use Rattle.paths.specs.Tables.{table, cell}
use Rattle.paths.specs.Closures.{Closure}
use Rattle.paths.proofs.Members.{in_chains_upto, of_chains_upto}
use Rattle.paths.proofs.Order.{Under}
use Rattle.paths.proofs.Cut.{L_all, chain_under}
use Rattle.paths.proofs.Steps.{settled}
use Rattle.paths.proofs.Perms.{L_perm}
use Rattle.paths.proofs.Written.{table_cong, shows_table}

module _ {K : Type 0} (o : Ops K) (laws : Laws o) (absorbs : Absorbs o) (arcs : List (Arc K)) (n : ℕ)
    (ends : (a : Arc K) → Mem a arcs → a.to < n) where
  once : (m : ℕ) → Still o arcs n m → (k : ℕ) → m ≤ k → (i j : ℕ) → i < n → j < n → L o arcs n i j ≡ L o arcs k i j
  once m still k h i j hi hj =
      sym (L_all o laws absorbs arcs n ends (max n m) (omega arith) i j)
      ∙ settled o laws arcs n ends m still (max n m) (omega arith) i j hi hj
      ∙ sym (settled o laws arcs n ends m still k h i j hi hj)

  pub closure : (cells : List K) → cells ≡ table n (L o arcs n) → Closure o arcs n cells
  closure cells e = record {
    longer = λ m h. e ∙ table_cong o n (L o arcs n) (L o arcs m) (λ i j _ _. sym (L_all o laws absorbs arcs n ends m h i j));
    stays = λ m still k h. e ∙ table_cong o n (L o arcs n) (L o arcs k) (once m still k h);
    any_order = λ others p. e ∙ table_cong o n (L o arcs n) (L o others n) (λ i j _ _. L_perm o laws arcs others p n i j);
    no_better = λ i j c hi hj chain some.
        subst (Under o (label_of o c)) (sym (ap (λ xs. cell o n xs i j) e ∙ shows_table o n (L o arcs n) i j hi hj))
        (chain_under o laws absorbs arcs n ends i j c chain some);
    chains_only = of_chains_upto arcs;
    chains_all = in_chains_upto arcs;
  }
