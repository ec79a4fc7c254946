-- What a catalogue means, and what is true of every meaning.
use Rattle.std.specs.Prelude.{◌≡◌, ℕ, ◌+◌, ◌<◌, ◌≤◌, Bool, true, not, ◌||◌, List, length, filter}
use Rattle.std.specs.List.{AllByRecursion}
use Rattle.labels.specs.Algebra.{Ops}
use Rattle.paths.specs.declared.arc.Arc.{Arc}

pub record Meaning (L : Type 0) : Type 0 where
  -- packages are numbered 0 to n - 1
  pub n : ℕ
  pub stock : List (Arc L)
  -- how many arcs more can be admitted
  pub places : ℕ
  pub sealed : Bool
  -- the set of held packages
  pub held : ℕ → Bool
  -- how many packages more can be held
  pub holds : ℕ

module _ {L : Type 0} (o : Ops L) where
  -- a stock arc: both ends below n, two different ends, a label other than none
  pub record ArcOk (n : ℕ) (a : Arc L) : Type 0 where
    pub from_in : a.from < n
    pub to_in : a.to < n
    pub apart : a.from ≡ a.to → ⊥
    pub labelled : a.label ≡ o.none → ⊥

  pub record Sound (m : Meaning L) : Type 0 where
    pub some : 1 ≤ m.n
    pub most : m.n ≤ 1024
    pub arcs : AllByRecursion (ArcOk m.n) m.stock
    pub room : length m.stock + m.places ≤ 65536
    pub inside : (p : ℕ) → m.held p ≡ true → p < m.n

module _ {L : Type 0} where
  -- neither end is held
  abbrev pub free_ends : Meaning L → Arc L → Bool
  free_ends m a = not (m.held a.from || m.held a.to)

  -- the arcs in force, each as often as it is in stock
  abbrev pub in_force : Meaning L → List (Arc L)
  in_force m = filter (free_ends m) m.stock
