-- Plans of a few arcs, by evaluation.
use Rattle.std.proofs.Common.{◌≡◌, ℕ, List, [], ◌∷◌, refl}
use Rattle.paths.specs.declared.arc.Arc.{Arc}
use Rattle.plans.specs.declared.counts.PlanCounts.{PlanCounts}
use Rattle.plans.specs.Plans.{counts, bytes}

abbrev arc : ℕ → ℕ → Arc (Unit {0})
arc p q = record { from = p; to = q; label = tt }

abbrev g : List (Arc (Unit {0}))
g = arc 0 1 ∷ arc 1 2 ∷ arc 0 2 ∷ arc 2 3 ∷ arc 3 2 ∷ arc 4 0 ∷ []

abbrev five : ℕ → ℕ → ℕ → ℕ → ℕ → PlanCounts
five j w m s i = record { jobs = j; waves = w; merged = m; skipped = s; inner = i }

pub g_three : counts g 5 (3 ∷ []) ≡ five 4 4 3 1 2
g_three = refl

pub g_zero : counts g 5 (0 ∷ []) ≡ five 2 2 1 0 0
g_zero = refl

pub g_none : counts g 5 [] ≡ five 0 0 0 0 0
g_none = refl

pub g_more : counts (arc 0 1 ∷ g) 5 (3 ∷ []) ≡ five 4 4 3 2 2
g_more = refl

pub g_bytes : bytes g 5 (3 ∷ []) ≡ 0 ∷ 2 ∷ 1 ∷ 0 ∷ 0 ∷ 0 ∷ 0 ∷ 2 ∷ 0 ∷ 0 ∷ 0 ∷ 0 ∷ 0 ∷ 0 ∷ 0 ∷ 0 ∷ 0 ∷ 0 ∷ 0 ∷ 0 ∷ 2 ∷ 1 ∷ 1 ∷ 0 ∷ 0 ∷ []
g_bytes = refl
