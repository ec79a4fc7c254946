-- Lists of packages.
use Rattle.std.specs.Prelude.{ℕ, Bool, true, false, not, ◌&&◌, ◌||◌, List, [], ◌∷◌, filter, ◌==◌}

-- is p in the list?
abbrev pub within : List ℕ → ℕ → Bool
within [] p = false
within (x ∷ xs) p = p == x || within xs p

-- the list less p
abbrev pub without : ℕ → List ℕ → List ℕ
without p xs = filter (λ q. not (p == q)) xs

-- none is twice in the list
abbrev pub once : List ℕ → Bool
once [] = true
once (x ∷ xs) = not (within xs x) && once xs
