-- Fields are parted at the first space, and numbers hold none. Assumes nothing.
use Rattle.std.proofs.Common.{◌≡◌, ℕ, ◌+◌, ◌^◌, ◌<◌, eqb, List, [], ◌∷◌, ◌++◌, length, take, drop, Some, None, decimal, Option, option_map, sym, refl, ap, ◌∙◌, subst, arith}
use Rattle.std.specs.Str.Parse.{AllDigits}
use Rattle.std.specs.List.{position, position_or_len}
use Rattle.std.proofs.lemmas.Fmt.{digits_decimal}
use Rattle.std.proofs.lemmas.Option.{none-some, option_and_then_some, same_Some}
use Rattle.std.proofs.lemmas.Grind.{common_steps}
use Rattle.std.proofs.lemmas.List.Quantifiers.{position-Some}
use Rattle.std.proofs.lemmas.List.{append_assoc, drop_at, length-append, length_push, take_at}
use Rattle.console.specs.Grammar.{field, number_of, split_of, three_of, two_of}
use Rattle.console.proofs.Numbers.{number_all, number_some, own}

pub map_some : {X Y : Type 0} (f : X → Y) (o : Option X) (y : Y) → option_map f o ≡ Some y → (x : X) × (o ≡ Some x) × (f x ≡ y)
map_some f None y e = absurd (none-some y e)
map_some f (Some x) y e = (x, refl, same_Some (f x) y e)

-- digits hold no space
space_past : (ds rest : List ℕ) → AllDigits 10 ds → position_or_len (λ b. eqb b 32) (ds ++ (32 ∷ rest)) ≡ length ds
space_past [] rest figs = refl
space_past (d ∷ ds) rest figs = grind (arith, space_past ds rest figs.1)

-- a number as written, a space and the rest
split_some : (bs : List ℕ) (s : ℕ × List ℕ) → split_of bs ≡ Some s → (bs ≡ decimal s.0 ++ (32 ∷ s.1)) × (s.0 < 2 ^ 32)
split_some bs s e =
    option_and_then_some (λ k. option_map (λ n. (n, drop (k + 1) bs)) (number_of (take k bs))) (position (λ b. eqb b 32) bs) s e (λ k at here.
    let space = position-Some (λ b. eqb b 32) bs k 0 at in
    let m = map_some (λ n. (n, drop (k + 1) bs)) (number_of (take k bs)) s here in
    let n = number_some (take k bs) m.0 m.1 in
    let P : ℕ × List ℕ → Type 0 = λ t. (bs ≡ decimal t.0 ++ (32 ∷ t.1)) × (t.0 < 2 ^ 32) in
    let parted : bs ≡ take k bs ++ (32 ∷ drop (k + 1) bs) = grind (arith, common_steps) in
    subst P m.2 (parted ∙ ap (λ ys. ys ++ (32 ∷ drop (k + 1) bs)) n.0, n.1))

split_all : (n : ℕ) (rest : List ℕ) → n < 2 ^ 32 → split_of (decimal n ++ (32 ∷ rest)) ≡ Some (n, rest)
split_all n rest small =
    let ds = decimal n in
    let is = space_past ds rest (digits_decimal own n (omega arith)) in
    let after : drop (length ds + 1) (ds ++ (32 ∷ rest)) ≡ rest = ap (drop (length ds + 1)) (sym (append_assoc ds (32 ∷ []) rest)) ∙ drop_at (ds ++ (32 ∷ [])) rest (length ds + 1) (length_push ds 32) in
    grind (arith, is, after, length-append ds (32 ∷ rest), take_at ds (32 ∷ rest) (length ds) refl, number_all n small)

-- numbers as written, parted by one space each
pub two_some : (bs : List ℕ) (t : ℕ × ℕ) → two_of bs ≡ Some t → (bs ≡ decimal t.0 ++ field t.1) × ((t.0 < 2 ^ 32) × (t.1 < 2 ^ 32))
two_some bs t e =
    option_and_then_some (λ s. option_map (λ n. (s.0, n)) (number_of s.1)) (split_of bs) t e (λ s split here.
    let m = map_some (λ n. (s.0, n)) (number_of s.1) t here in
    let a = split_some bs s split in
    let b = number_some s.1 m.0 m.1 in
    let P : ℕ × ℕ → Type 0 = λ u. (bs ≡ decimal u.0 ++ field u.1) × ((u.0 < 2 ^ 32) × (u.1 < 2 ^ 32)) in
    subst P m.2 (a.0 ∙ ap (λ ys. decimal s.0 ++ (32 ∷ ys)) b.0, (a.1, b.1)))

pub two_all : (m n : ℕ) → m < 2 ^ 32 → n < 2 ^ 32 → two_of (decimal m ++ field n) ≡ Some (m, n)
two_all m n small small' = grind (arith, split_all m (decimal n), number_all)

pub three_some : (bs : List ℕ) (t : ℕ × ℕ × ℕ) → three_of bs ≡ Some t → (bs ≡ decimal t.0 ++ (field t.1 ++ field t.2)) × ((t.0 < 2 ^ 32) × (t.1 < 2 ^ 32) × (t.2 < 2 ^ 32))
three_some bs t e =
    option_and_then_some (λ s. option_map (λ u. (s.0, u.0, u.1)) (two_of s.1)) (split_of bs) t e (λ s split here.
    let m = map_some (λ u. (s.0, u.0, u.1)) (two_of s.1) t here in
    let a = split_some bs s split in
    let b = two_some s.1 m.0 m.1 in
    let P : ℕ × ℕ × ℕ → Type 0 = λ u. (bs ≡ decimal u.0 ++ (field u.1 ++ field u.2)) × ((u.0 < 2 ^ 32) × (u.1 < 2 ^ 32) × (u.2 < 2 ^ 32)) in
    subst P m.2 (a.0 ∙ ap (λ ys. decimal s.0 ++ (32 ∷ ys)) b.0, (a.1, b.1.0, b.1.1)))

pub three_all : (l m n : ℕ) → l < 2 ^ 32 → m < 2 ^ 32 → n < 2 ^ 32 → three_of (decimal l ++ (field m ++ field n)) ≡ Some (l, m, n)
three_all l m n small small' small'' = grind (arith, split_all l (decimal m ++ field n), two_all)
