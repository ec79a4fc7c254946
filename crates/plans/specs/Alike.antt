-- Catalogues that differ in nothing that a closing, a sort or a plan tells, ranks and the room needed aside.
use Rattle.std.specs.Prelude.{◌≡◌, ℕ, List, map}
use Rattle.std.specs.List.{range_with_len}
use mathlib.Core.List.{Permᴰ}
use Rattle.catalogue.specs.Meanings.{Meaning, in_force}
use Rattle.plans.specs.Plans.{wave_of, bytes, counts}

-- alike in packages, held packages and arcs in force, each as often, in whatever order
pub record AlikeMeanings {K : Type 0} (m m' : Meaning K) : Type 0 where
  pub n : m.n ≡ m'.n
  pub held : (p : ℕ) → m.held p ≡ m'.held p
  pub arcs : Permᴰ (in_force m) (in_force m')

-- their plans are the same: the bytes, the waves of all packages and the counts
pub record AlikePlans {K : Type 0} (m m' : Meaning K) (changed again : List ℕ) : Type 0 where
  pub bytes : bytes (in_force m) m.n changed ≡ bytes (in_force m') m'.n again
  pub waves : map (wave_of (in_force m) m.n changed) (range_with_len 0 m.n) ≡ map (wave_of (in_force m') m'.n again) (range_with_len 0 m'.n)
  pub counts : counts (in_force m) m.n changed ≡ counts (in_force m') m'.n again
