-- Groups of packages: those that are equal or that chains lead between both ways.
use Rattle.std.specs.Prelude.{◌≡◌, ℕ, ◌<◌, ◌≤◌, Bool, true, false, ◌&&◌, ◌||◌, ◌⊎◌, List, [], ◌∷◌, map, filter, length, ◌==◌, slice_index}
use mathlib.Core.List.{Permᴰ}
use Rattle.std.specs.List.{range_with_len, list_any}
use Rattle.paths.specs.Chains.{Arc, chains_upto, IsChain}
use Rattle.paths.specs.Tables.{first_from}

-- is there any?
abbrev pub some : {A : Type 0} → List A → Bool
some [] = false
some (x ∷ xs) = true

module _ {K : Type 0} (arcs : List (Arc K)) (n : ℕ) where
  -- does a chain of 1 to n arcs lead from p to q? If any chain does, one of these does
  abbrev pub chained : ℕ → ℕ → Bool
  chained p q = some (chains_upto arcs n p q)

  -- is p q, or do chains lead both ways?
  abbrev pub together : ℕ → ℕ → Bool
  together p q = p == q || (chained p q && chained q p)

  -- the name of p's group: its lowest number
  abbrev pub group : ℕ → ℕ
  group p = first_from (together p) p 0

  abbrev pub groups : List ℕ
  groups = map group (range_with_len 0 n)

  -- the number of groups: of packages that name their own
  abbrev pub group_count : ℕ
  group_count = length (filter (λ p. group p == p) (range_with_len 0 n))

  -- does a chain lead back to its start?
  abbrev pub looped : Bool
  looped = list_any (λ p. chained p p) (range_with_len 0 n)

module _ {K : Type 0} (arcs : List (Arc K)) where
  -- a chain of one or more arcs, however many, leads from p to q
  abbrev pub Chained : ℕ → ℕ → Type 0
  Chained p q = (c : List (Arc K)) × (0 < length c) × IsChain arcs p q c

  -- p is q, or chains lead both ways
  abbrev pub Together : ℕ → ℕ → Type 0
  Together p q = (p ≡ q) ⊎ (Chained p q × Chained q p)

  -- a chain leads back to its start
  abbrev pub Loop : Type 0
  Loop = (p : ℕ) × Chained p p

-- what is true of the groups' names
pub record Grouped {K : Type 0} (arcs : List (Arc K)) (n : ℕ) (names : List ℕ) : Type 0 where
  -- a name is in its group
  pub member : (p : ℕ) → p < n → Together arcs p (slice_index names p)
  -- and the lowest number there
  pub lowest : (p q : ℕ) → p < n → q < n → Together arcs p q → slice_index names p ≤ q
  -- packages have one name exactly where they are together
  pub one : (p q : ℕ) → p < n → q < n → Together arcs p q → slice_index names p ≡ slice_index names q
  pub apart : (p q : ℕ) → p < n → q < n → slice_index names p ≡ slice_index names q → Together arcs p q
  -- the order of the arcs does not matter
  pub any_order : (others : List (Arc K)) → Permᴰ arcs others → names ≡ groups others n
  pub count_any_order : (others : List (Arc K)) → Permᴰ arcs others → group_count arcs n ≡ group_count others n

-- it tells whether a chain of the arcs between n packages leads back to its start
pub record LoopTold {K : Type 0} (arcs : List (Arc K)) (n : ℕ) (told : Bool) : Type 0 where
  pub found : told ≡ true → Loop arcs
  pub clear : told ≡ false → Loop arcs → ⊥
  -- the order of the arcs does not matter
  pub any_order : (others : List (Arc K)) → Permᴰ arcs others → told ≡ looped others n
