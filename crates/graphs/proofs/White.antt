-- How the number of packages with no mark changes when one is marked.
use Rattle.std.proofs.Common.{◌≡◌, ℕ, suc, ◌+◌, ◌<◌, cond, eqb, List, [], ◌∷◌, length, get_or, set, refl, ap, arith}
use Rattle.std.proofs.lemmas.List.Sums.{sum_by-set, sum_by-cons}
use Rattle.graphs.specs.Searches.{white}

abbrev bare : ℕ → ℕ
bare x = cond (eqb x 0) 1 0

pub white_mark : (m : List ℕ) (p : ℕ) → p < length m → get_or m p 0 ≡ 0 → white (set m p 1) + 1 ≡ white m
unfolding white
white_mark m p inside unseen =
    let e : bare (get_or m p 0) ≡ 1 = ap bare unseen in
    omega (arith, sum_by-set bare m p 1 0 inside)

pub white_zeros : (m : List ℕ) → ((v : ℕ) → get_or m v 0 ≡ 0) → white m ≡ length m
unfolding white
white_zeros [] zeros = refl
white_zeros (x ∷ m) zeros =
    let e : bare x ≡ 1 = ap bare (zeros 0) in
    let rest : white m ≡ length m = white_zeros m (λ v. zeros (suc v)) in
    omega (arith, sum_by-cons bare x m)

pub white_none : (m : List ℕ) → ((v : ℕ) → v < length m → 0 < get_or m v 0) → white m ≡ 0
unfolding white
white_none [] marked = refl
white_none (x ∷ m) marked =
    let h : 0 < x = marked 0 (omega arith) in
    let e : bare x ≡ 0 = grind arith in
    let rest : white m ≡ 0 = white_none m (λ v l. marked (suc v) (omega arith)) in
    omega (arith, sum_by-cons bare x m)
