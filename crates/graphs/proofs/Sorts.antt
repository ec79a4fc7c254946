-- Sort as a whole: two searches over the arcs in force, the first along the arcs turned round.
use Rattle.std.proofs.Common.{◌≡◌, ℕ, ◌<◌, ◌≤◌, List, length, subst, arith}
use Rattle.labels.specs.Algebra.{Ops}
use Rattle.paths.specs.Groups.{group_count}
use Rattle.catalogue.specs.Meanings.{Meaning, Sound, in_force}
use Rattle.catalogue.specs.Calls.{arc_at}
use Rattle.graphs.specs.Records.{PackageRecord, of, Sorted}
use Rattle.graphs.specs.Rows.{Compressed, sources, targets}
use Rattle.graphs.specs.Searches.{Graph, Edge, Marked, Whole, Finished, Classified}
use Rattle.graphs.proofs.Edges.{ends, sources_graph, targets_graph, edge_to, edge_of, turn, turn_back}
use Rattle.graphs.proofs.Named.{sorted_is, count_is}
use Rattle.graphs.proofs.Whole.{finished_from}

module _ {K : Type 0} {m : Meaning K} (o : Ops K) (sound : Sound o m) where
  -- the searches' marks are as many as the packages
  pub turned_graph : (s c : List ℕ) (l : ℕ) → l ≡ m.n → Compressed (arc_at m) sources m.n (length m.stock) s c → Graph s c l
  turned_graph s c l e rows = rw e (sources_graph m o sound s c rows)

  pub graph : (s c : List ℕ) (l : ℕ) → l ≡ m.n → Compressed (arc_at m) targets m.n (length m.stock) s c → Graph s c l
  graph s c l e rows = rw e (targets_graph m o sound s c rows)

  -- the first search is finished
  pub finished : (s₁ c₁ s₂ c₂ : List ℕ) → Compressed (arc_at m) sources m.n (length m.stock) s₁ c₁ → Compressed (arc_at m) targets m.n (length m.stock) s₂ c₂
      → (l : ℕ) → l ≡ m.n → (marks f : List ℕ) (c : ℕ) → length marks ≡ m.n → length f ≡ m.n
      → ((v : ℕ) → v < m.n → Marked marks v) → Whole (Edge s₁ c₁) marks f c → Finished (Edge s₂ c₂) l f (length f)
  finished s₁ c₁ s₂ c₂ back ahead l e marks f c long same all whole =
      rw e (finished_from (Edge s₁ c₁) (Edge s₂ c₂) m.n marks f c (turn m o sound s₁ c₁ s₂ c₂ back ahead) (λ a b. turn_back m o sound s₁ c₁ s₂ c₂ back ahead a b) long same all whole)

  -- the second has entered every group
  module _ (s c : List ℕ) (rows : Compressed (arc_at m) targets m.n (length m.stock) s c) (l : ℕ) (e : l ≡ m.n) (old new : List PackageRecord) (g : ℕ)
      (many : m.n ≤ length new) (same_length : length new ≡ length old)
      (made : Classified (Edge s c) (λ v. v < l) new g) (beyond : (v : ℕ) → l ≤ v → of new v ≡ of old v) where
    pub counted : g ≡ group_count (in_force m) m.n
    counted = count_is (in_force m) m.n (ends m o sound) (Edge s c) (edge_to m o sound s c rows) (edge_of m o sound s c rows) old new g many same_length
        (subst (λ n. Classified (Edge s c) (λ v. v < n) new g) e made) (λ v h. beyond v (omega (arith, h, e)))

    pub sorted : Sorted (in_force m) m.n old new
    sorted = sorted_is (in_force m) m.n (ends m o sound) (Edge s c) (edge_to m o sound s c rows) (edge_of m o sound s c rows) old new g many same_length
        (subst (λ n. Classified (Edge s c) (λ v. v < n) new g) e made) (λ v h. beyond v (omega (arith, h, e)))
