-- A number is read from just the bytes that write it in decimal. Assumes nothing.
use Rattle.std.proofs.Common.{◌≡◌, ℕ, ◌+◌, ◌*◌, ◌^◌, ◌<◌, ◌≤◌, List, [], ◌∷◌, Some, decimal, refl, subst, arith}
use Rattle.std.specs.Str.Parse.{AllDigits, digits_value, digits_value_after}
use Rattle.std.specs.Char.{digit_value}
use Rattle.std.proofs.lemmas.Fmt.{decimal_digit, decimal_nonempty, decimal-digits_value, digits_decimal, first_decimal, digits_value-decimal}
use Rattle.std.proofs.lemmas.Option.{option_and_then_some, same_Some}
use Rattle.std.proofs.lemmas.Str.Parse.{IsNumeralModel, digit_from_value, numerals_by_value, tells_digits}
use Rattle.std.proofs.lemmas.Str.{digit_value_digit}
use Rattle.console.specs.Grammar.{digits_of, grow, number_of}

pub own : IsNumeralModel (AllDigits 10) (digits_value 10)
own = numerals_by_value (AllDigits 10) tells_digits

value_ge : (sum : ℕ) (bs : List ℕ) → sum ≤ digits_value_after 10 sum bs
value_ge sum [] = omega arith
value_ge sum (b ∷ bs) = omega (arith, value_ge (sum * 10 + digit_value b) bs)

digits_some : (sum : ℕ) (bs : List ℕ) (n : ℕ) → sum < 2 ^ 32 → digits_of sum bs ≡ Some n → AllDigits 10 bs × (digits_value_after 10 sum bs ≡ n) × (n < 2 ^ 32)
digits_some sum [] n small e = grind (arith, same_Some sum n)
digits_some sum (b ∷ bs) n small e =
    option_and_then_some (λ more. digits_of more bs) (grow sum b) n e (λ more grows later.
    let g : (digit_value b < 10) × (more ≡ sum * 10 + digit_value b) × (more < 2 ^ 32) = grind (arith, digit_value_digit b) in
    let rest = digits_some more bs n g.2 later in
    ((g.0, rest.0), subst (λ k. digits_value_after 10 k bs ≡ n) g.1 rest.1, rest.2))

digits_all : (sum : ℕ) (bs : List ℕ) → AllDigits 10 bs → digits_value_after 10 sum bs < 2 ^ 32 → digits_of sum bs ≡ Some (digits_value_after 10 sum bs)
digits_all sum [] figs small = refl
digits_all sum (b ∷ bs) figs small = grind (arith, digits_all (sum * 10 + digit_value b) bs figs.1 small, value_ge (sum * 10 + digit_value b) bs, digit_value_digit b, digit_from_value b)

pub number_some : (bs : List ℕ) (n : ℕ) → number_of bs ≡ Some n → (bs ≡ decimal n) × (n < 2 ^ 32)
number_some bs n e = grind (arith, digits_some 0 bs n, decimal-digits_value own bs)

pub number_all : (n : ℕ) → n < 2 ^ 32 → number_of (decimal n) ≡ Some n
number_all n small =
    let wide : n < 2 ^ 64 = omega arith in
    grind (arith, first_decimal n, decimal_digit n, decimal_nonempty n wide, digits_all 0 (decimal n) (digits_decimal own n wide), digits_value-decimal own n wide)
