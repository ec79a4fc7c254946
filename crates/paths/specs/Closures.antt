-- What is true of a table that holds L(n).
use Rattle.std.specs.Prelude.{◌≡◌, ℕ, ◌<◌, ◌≤◌, List, length}
use mathlib.Core.List.{Permᴰ}
use Rattle.labels.specs.Algebra.{Ops}
use Rattle.paths.specs.Chains.{Arc, Mem, IsChain, chains_upto, label_of, L, Still}
use Rattle.paths.specs.Tables.{table, cell}

pub record Closure {K : Type 0} (o : Ops K) (arcs : List (Arc K)) (n : ℕ) (cells : List K) : Type 0 where
  -- longer chains change nothing: it is L(m) for every m from n upward
  pub longer : (m : ℕ) → n ≤ m → cells ≡ table n (L o arcs m)
  -- once L(m + 1) = L(m), L stays so: it is L(k) for every k from m upward
  pub stays : (m : ℕ) → Still o arcs n m → (k : ℕ) → m ≤ k → cells ≡ table n (L o arcs k)
  -- the order of the arcs does not matter
  pub any_order : (others : List (Arc K)) → Permᴰ arcs others → cells ≡ table n (L o others n)
  -- no chain, of whatever length, would change its pair's label
  pub no_better : (i j : ℕ) (c : List (Arc K)) → i < n → j < n → IsChain arcs i j c → 0 < length c → o.join (cell o n cells i j) (label_of o c) ≡ cell o n cells i j
  -- what L(m) joins is each chain of 1 to m arcs, and nothing else
  pub chains_only : (m i j : ℕ) (c : List (Arc K)) → Mem c (chains_upto arcs m i j) → (0 < length c) × (length c ≤ m) × IsChain arcs i j c
  pub chains_all : (m i j : ℕ) (c : List (Arc K)) → IsChain arcs i j c → 0 < length c → length c ≤ m → Mem c (chains_upto arcs m i j)
