-- Pairs of jobs as relations: what they connect, their waits, and numberings.
use Rattle.std.specs.Prelude.{◌≡◌, ℕ, ◌+◌, ◌<◌, ◌⊎◌}
pub use Rattle.graphs.specs.Searches.{Reach, here, step}

-- pairs connect a to b: one or more of them, each starting where the one before ended, lead from a to b
abbrev pub Connects : (ℕ → ℕ → Type 0) → ℕ → ℕ → Type 0
Connects D a b = (c : ℕ) × D a c × Reach D c b

-- b is connected with a, and by no way over a third
abbrev pub Wait : (ℕ → ℕ → Type 0) → ℕ → ℕ → Type 0
Wait D a b = Connects D a b × ((c : ℕ) → Connects D a c → Connects D c b → ⊥)

-- two sets of pairs connect the same
abbrev pub Same : (ℕ → ℕ → Type 0) → (ℕ → ℕ → Type 0) → Type 0
Same D P = ((a b : ℕ) → Connects D a b → Connects P a b) × ((a b : ℕ) → Connects P a b → Connects D a b)

-- a numbering that puts each above those that it depends on
abbrev pub Numbers : (ℕ → ℕ → Type 0) → (ℕ → ℕ) → Type 0
Numbers D num = (a b : ℕ) → D a b → num b < num a

-- 0 where there is no pair, else one more than the largest among the targets
pub record Waves (D : ℕ → ℕ → Type 0) (wave : ℕ → ℕ) : Type 0 where
  pub above : Numbers D wave
  pub tight : (a : ℕ) → (wave a ≡ 0) ⊎ ((b : ℕ) × D a b × (wave a ≡ wave b + 1))
