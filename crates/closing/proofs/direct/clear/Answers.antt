use Rattle.std.proofs.Common.{◌≡◌, ℕ, zero, suc, List, [], ◌∷◌, get_or, refl, rules}
use Rattle.std.specs.List.{FoldsTo}
use Rattle.closing.proofs.direct.clear.Goals as goal

all_alike : {F A : Type 0} (R : F → A → F → Type 0) (d : A) (xs : List A) (f last : F) → FoldsTo R f xs last → ((f : F) (x : A) (e : F) → R f x e → x ≡ d) → (u : ℕ) → get_or xs u d ≡ d
all_alike R d [] f last ran each u = refl
all_alike R d (x ∷ xs) f last ran each zero = each f x ran.0 ran.1
all_alike R d (x ∷ xs) f last ran each (suc u) = all_alike R d xs ran.0 last ran.2 each u

pub returns : goal.returns
returns g c = λ u h. all_alike _ g.K.Label.ops.none c.fill_with.new.self _ c.fill_with.ensures.ran.0 c.fill_with.ensures.ran.1 (λ f x e r. search rules) u
