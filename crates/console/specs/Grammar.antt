-- Which lines are commands.
use Rattle.std.specs.Prelude.{◌≡◌, ℕ, ◌+◌, ◌-◌, ◌*◌, ◌^◌, ◌<◌, Bool, cond, ◌&&◌, ◌||◌, List, [], ◌∷◌, ◌++◌, length, take, drop, Some, None, Ok, Err, decimal, Option, ok_or, option_map, option_and_then, position, Result, ◌==◌, ◌≢◌, nat_lt, slice_index}
use Rattle.std.specs.Char.{is_ascii_digit}
use Rattle.catalogue.specs.declared.refusal.Refusal.{Refusal}
use Rattle.catalogue.specs.Refusals.{answer}
use Rattle.console.specs.declared.command.Command.{Command}
use Rattle.console.specs.declared.command.Command.TheVariants.{Size, Admit, Withdraw, Hold, Lift, Label, Plan}

-- the number with one more digit, below 2 ^ 32
abbrev pub grow : ℕ → ℕ → Option ℕ
grow sum b = cond (is_ascii_digit b && nat_lt (sum * 10 + (b - 48)) (2 ^ 32)) (Some (sum * 10 + (b - 48))) None

-- the number that begins with sum and goes on in digits
abbrev pub digits_of : ℕ → List ℕ → Option ℕ
digits_of sum [] = Some sum
digits_of sum (b ∷ bs) = option_and_then (λ more. digits_of more bs) (grow sum b)

-- a zero and more
abbrev pub padded : List ℕ → Bool
padded bs = nat_lt 1 (length bs) && slice_index bs 0 == 48

abbrev pub number_of : List ℕ → Option ℕ
number_of bs = cond (length bs == 0 || padded bs) None (digits_of 0 bs)

-- the number before the first space, and what stands after that space
abbrev pub split_of : List ℕ → Option (ℕ × List ℕ)
split_of bs = option_and_then (λ k. option_map (λ n. (n, drop (k + 1) bs)) (number_of (take k bs))) (position (λ b. b == 32) bs)

-- two numbers, and one space between them
abbrev pub two_of : List ℕ → Option (ℕ × ℕ)
two_of bs = option_and_then (λ s. option_map (λ n. (s.0, n)) (number_of s.1)) (split_of bs)

-- a number, one space and two more
abbrev pub three_of : List ℕ → Option (ℕ × ℕ × ℕ)
three_of bs = option_and_then (λ s. option_map (λ t. (s.0, t.0, t.1)) (two_of s.1)) (split_of bs)

abbrev pub size_of : List ℕ → Option Command
size_of bs = option_map (λ p. Size p) (number_of bs)

abbrev pub admit_of : List ℕ → Option Command
admit_of bs = option_map (λ t. Admit t.0 t.1 t.2) (three_of bs)

abbrev pub withdraw_of : List ℕ → Option Command
withdraw_of bs = option_map (λ t. Withdraw t.0 t.1) (two_of bs)

abbrev pub hold_of : List ℕ → Option Command
hold_of bs = option_map (λ p. Hold p) (number_of bs)

abbrev pub lift_of : List ℕ → Option Command
lift_of bs = option_map (λ p. Lift p) (number_of bs)

abbrev pub label_of : List ℕ → Option Command
label_of bs = option_map (λ t. Label t.0 t.1) (two_of bs)

abbrev pub plan_of : List ℕ → Option Command
plan_of bs = option_map (λ p. Plan p) (number_of bs)

-- by the letters n, a, w, h, l, m, p
abbrev pub by_letter : ℕ → List ℕ → Option Command
by_letter l bs =
    cond (l == 110) (size_of bs)
    (cond (l == 97) (admit_of bs)
    (cond (l == 119) (withdraw_of bs)
    (cond (l == 104) (hold_of bs)
    (cond (l == 108) (lift_of bs)
    (cond (l == 109) (label_of bs)
    (cond (l == 112) (plan_of bs) None))))))

-- a byte and a space come first
abbrev pub opened : List ℕ → Bool
opened line = nat_lt 1 (length line) && slice_index line 1 == 32

-- a letter, a space and the fields
abbrev pub command_of : List ℕ → Option Command
command_of line = cond (opened line) (by_letter (slice_index line 0) (drop 2 line)) None

-- a space and a number
abbrev pub field : ℕ → List ℕ
field n = 32 ∷ decimal n

-- the line of a command: its letter and its fields
abbrev pub written : Command → List ℕ
written (Size p) = 110 ∷ field p
written (Admit f t m) = 97 ∷ (field f ++ (field t ++ field m))
written (Withdraw f t) = 119 ∷ (field f ++ field t)
written (Hold p) = 104 ∷ field p
written (Lift p) = 108 ∷ field p
written (Label f t) = 109 ∷ (field f ++ field t)
written (Plan p) = 112 ∷ field p

abbrev pub Fits : Command → Type 0
Fits (Size p) = p < 2 ^ 32
Fits (Admit f t m) = (f < 2 ^ 32) × (t < 2 ^ 32) × (m < 2 ^ 32)
Fits (Withdraw f t) = (f < 2 ^ 32) × (t < 2 ^ 32)
Fits (Hold p) = p < 2 ^ 32
Fits (Lift p) = p < 2 ^ 32
Fits (Label f t) = (f < 2 ^ 32) × (t < 2 ^ 32)
Fits (Plan p) = p < 2 ^ 32

-- what a line is: its command, or 16
abbrev pub parsed : List ℕ → Result Command ℕ
parsed line = ok_or (command_of line) 16

-- a line is taken exactly where it is a command's written form, as that command; every other line is 16
pub record Exactly (line : List ℕ) (r : Result Command Refusal) : Type 0 where
  pub taken : (c : Command) → r ≡ Ok c → (line ≡ written c) × Fits c
  pub all : (c : Command) → Fits c → line ≡ written c → r ≡ Ok c
  pub other : ((c : Command) → Fits c → line ≢ written c) → answer r ≡ Err 16
