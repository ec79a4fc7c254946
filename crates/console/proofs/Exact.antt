-- A line is a command just where it is that command's written form. Assumes nothing.
use Rattle.std.proofs.Common.{◌≡◌, ℕ, ◌^◌, ◌<◌, ◌≤◌, cond, eqb, List, ◌∷◌, ◌++◌, length, get_or, drop, Some, None, Ok, Option, option_map, ok_or, sym, refl, ap, ◌∙◌, subst, arith}
use Rattle.std.proofs.lemmas.Fmt.{length-decimal-le}
use Rattle.std.proofs.lemmas.Grind.{common_steps}
use Rattle.std.proofs.lemmas.List.{length-append}
use Rattle.std.proofs.lemmas.Option.{none-some, same_Some}
use Rattle.std.proofs.lemmas.Bool.{cond_both, eqb-true}
use Rattle.catalogue.specs.Refusals.{answer}
use Rattle.catalogue.specs.declared.refusal.Refusal.TheVariants.{NotCommand}
use Rattle.console.specs.declared.command.Command.{Command}
use Rattle.console.specs.declared.command.Command.TheVariants.{Size, Admit, Withdraw, Hold, Lift, Label, Plan}
use Rattle.console.specs.Grammar.{Exactly, Fits, by_letter, command_of, field, written}
use Rattle.console.proofs.Fields.{three_all, three_some, two_all, two_some, map_some}
use Rattle.console.proofs.Numbers.{number_all, number_some}

abbrev Says : ℕ → List ℕ → Command → Type 0
Says l bs c = (l ∷ (32 ∷ bs) ≡ written c) × Fits c

-- one letter: what its command says, and else what the other letters say
letter : {X : Type 0} (make : X → Command) (l k : ℕ) (bs : List ℕ) (c : Command) (o : Option X) (p : Option Command) → ((x : X) → written (make x) ≡ k ∷ (32 ∷ drop 2 (written (make x)))) → ((x : X) → o ≡ Some x → (bs ≡ drop 2 (written (make x))) × Fits (make x)) → (p ≡ Some c → Says l bs c) → cond (eqb l k) (option_map make o) p ≡ Some c → Says l bs c
letter make l k bs c o p form reads there =
    cond_both (eqb l k) (option_map make o) p (λ q. q ≡ Some c → Says l bs c) (λ same e.
    let w = map_some make o c e in
    let r = reads w.0 w.1 in
    subst (Says l bs) w.2 (ap (λ y. y ∷ (32 ∷ bs)) (eqb-true l k same) ∙ ap (λ ys. k ∷ (32 ∷ ys)) r.0 ∙ sym (form w.0), r.1)) (λ _. there)

by_letter_some : (l : ℕ) (bs : List ℕ) (c : Command) → by_letter l bs ≡ Some c → Says l bs c
by_letter_some l bs c =
    letter (λ p. Size p) l 110 bs c _ _ (λ _. refl) (number_some bs)
    (letter (λ t. Admit t.0 t.1 t.2) l 97 bs c _ _ (λ _. refl) (three_some bs)
    (letter (λ t. Withdraw t.0 t.1) l 119 bs c _ _ (λ _. refl) (two_some bs)
    (letter (λ p. Hold p) l 104 bs c _ _ (λ _. refl) (number_some bs)
    (letter (λ p. Lift p) l 108 bs c _ _ (λ _. refl) (number_some bs)
    (letter (λ t. Label t.0 t.1) l 109 bs c _ _ (λ _. refl) (two_some bs)
    (letter (λ p. Plan p) l 112 bs c _ _ (λ _. refl) (number_some bs) (λ e. absurd (none-some c e))))))))

command_some : (line : List ℕ) (c : Command) → command_of line ≡ Some c → (line ≡ written c) × Fits c
command_some line c e = grind (arith, common_steps, by_letter_some (get_or line 0 0) (drop 2 line) c)

command_all : (c : Command) → Fits c → command_of (written c) ≡ Some c
command_all (Size p) fits = grind (arith, number_all p)
command_all (Admit f t m) fits = grind (arith, three_all f t m)
command_all (Withdraw f t) fits = grind (arith, two_all f t)
command_all (Hold p) fits = grind (arith, number_all p)
command_all (Lift p) fits = grind (arith, number_all p)
command_all (Label f t) fits = grind (arith, two_all f t)
command_all (Plan p) fits = grind (arith, number_all p)

pub exactly : (line : List ℕ) (o : Option Command) → o ≡ command_of line → Exactly line (ok_or o NotCommand)
exactly line (Some c) e = record {
  taken = λ d is. let same : c ≡ d = cc in command_some line d (sym e ∙ ap Some same);
  all = λ d fits form. ap Ok (same_Some c d (e ∙ ap command_of form ∙ command_all d fits));
  other = λ none. let k = command_some line c (sym e) in absurd (none c k.1 k.0);
}
exactly line None e = record {
  taken = λ d is. let z : ◌≡◌ {A = ℕ} 0 1 = cc in absurd (omega arith);
  all = λ d fits form. absurd (none-some d (e ∙ ap command_of form ∙ command_all d fits));
  other = λ none. refl;
}

-- a number below 2 ^ 32 has at most ten digits
field_le : (n : ℕ) → n < 2 ^ 32 → length (field n) ≤ 11
field_le n small = omega (arith, length-decimal-le 10 n (omega arith) (omega arith) (omega arith))

written_le : (c : Command) → Fits c → length (written c) ≤ 34
written_le (Size p) fits = omega (arith, field_le p fits)
written_le (Admit f t m) fits = grind (arith, field_le, length-append)
written_le (Withdraw f t) fits = grind (arith, field_le, length-append)
written_le (Hold p) fits = omega (arith, field_le p fits)
written_le (Lift p) fits = omega (arith, field_le p fits)
written_le (Label f t) fits = grind (arith, field_le, length-append)
written_le (Plan p) fits = omega (arith, field_le p fits)

none_left : {X : Type 0} (o : Option X) → ((x : X) → o ≡ Some x → ⊥) → o ≡ None
none_left o h = grind arith

pub long_none : (line : List ℕ) → 64 < length line → command_of line ≡ None
long_none line long =
    none_left (command_of line) (λ c e.
    let is = command_some line c e in
    omega (arith, ap length is.0, written_le c is.1))

pub cut_same : (line rest : List ℕ) → length line ≡ 65 → command_of (line ++ rest) ≡ command_of line
cut_same line rest size = long_none (line ++ rest) (omega (arith, length-append line rest)) ∙ sym (long_none line (omega arith))

pub answered : (o : Option Command) → answer (ok_or o NotCommand) ≡ ok_or o 16
answered None = refl
answered (Some c) = refl
