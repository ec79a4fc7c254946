-- Holds and lifts in a layer's own list, and passed down.
use Rattle.std.proofs.Common.{◌≡◌, ℕ, ◌+◌, ◌-◌, ◌<◌, ◌≤◌, Bool, true, false, cond, not, ◌&&◌, ◌||◌, eqb, List, [], ◌∷◌, ◌++◌, length, is_ok, Ok, Err, Result, sym, refl, ap, ◌∙◌, ⊎_elim, arith, length-append}
use mathlib.Core.Path.{fun_ext}
use Rattle.std.proofs.lemmas.Bool.{ne_eqb, eqb-true, or_from, or_cases, and_parts, and_right, lt-leb, leb-false}
use Rattle.catalogue.specs.Meanings.{Meaning}
use Rattle.catalogue.specs.Calls.{outside, hold_answer, hold_leaves, held_too, lift_answer, lift_leaves, lifted}
use Rattle.catalogue.specs.Lists.{within, without}
use Rattle.catalogue.specs.Holds.{OwnOk, held_over}
use Rattle.catalogue.proofs.Listed.{within_push, within_without, once_without, once_push, length_without, or_push, shift_not, not_out}
use Rattle.catalogue.proofs.Choosing.{over_cond}
use Rattle.catalogue.proofs.Accepting.{err_ok}

module _ {L : Type 0} (m : Meaning L) (xs : List ℕ) (p : ℕ) where
  -- hold, in the layer's own list
  module _ (ok : OwnOk m.held m.n xs) (pn : p < m.n) (out : within xs p ≡ false) (free : m.held p ≡ false) where
    pub added_ok : OwnOk m.held m.n (xs ++ (p ∷ []))
    added_ok = record {
      apart = once_push xs p ok.apart out;
      fresh = λ q h. ⊎_elim (ok.fresh q) (λ e. ap m.held (eqb-true q p e) ∙ free) (or_cases (within xs q) (eqb q p) (sym (within_push xs p q) ∙ h));
      inside = λ q h. ⊎_elim (ok.inside q) (λ e. let same : q ≡ p = eqb-true q p e in omega arith) (or_cases (within xs q) (eqb q p) (sym (within_push xs p q) ∙ h));
    }

    pub hold_taken : length xs < 32 → hold_answer (held_over xs m) p ≡ Ok tt
    hold_taken room =
        let e1 = lt-leb m.n p pn in
        let e2 : (within xs p || m.held p) ≡ false = or_from (within xs p) (m.held p) out free in
        let e3 = ne_eqb ((32 - length xs) + m.holds) 0 (λ e. omega arith) in
        simp (e1, e2, e3)

    pub hold_added : length xs < 32 → held_over (xs ++ (p ∷ [])) m ≡ hold_leaves (held_over xs m) p
    hold_added room =
        let held : ◌≡◌ {A = ℕ → Bool} (λ q. within (xs ++ (p ∷ [])) q || m.held q) (λ q. eqb q p || (within xs q || m.held q)) = fun_ext (λ q. ap (λ b. b || m.held q) (within_push xs p q) ∙ or_push (within xs q) (eqb q p) (m.held q)) in
        let holds : (32 - length (xs ++ (p ∷ []))) + m.holds ≡ ((32 - length xs) + m.holds) - 1 = simp length-append (omega arith) in
        let e : held_over (xs ++ (p ∷ [])) m ≡ held_too (held_over xs m) p = λ i. record { n = m.n; stock = m.stock; places = m.places; sealed = m.sealed; held = held i; holds = holds i } in
        e ∙ sym (ap (λ r. cond (is_ok r) (held_too (held_over xs m) p) (held_over xs m)) (hold_taken room))

  -- lift, from the layer's own list
  module _ (ok : OwnOk m.held m.n xs) (there : within xs p ≡ true) where
    pub out_ok : OwnOk m.held m.n (without p xs)
    out_ok = record {
      apart = once_without p xs ok.apart;
      fresh = λ q h. ok.fresh q (and_parts (not (eqb q p)) (within xs q) (sym (within_without p xs q) ∙ h)).1;
      inside = λ q h. ok.inside q (and_parts (not (eqb q p)) (within xs q) (sym (within_without p xs q) ∙ h)).1;
    }

    pub lift_taken : lift_answer (held_over xs m) p ≡ Ok tt
    lift_taken = let e1 = lt-leb m.n p (ok.inside p there) in simp (e1, there)

    pub lift_out : length xs ≤ 32 → held_over (without p xs) m ≡ lift_leaves (held_over xs m) p
    lift_out few =
        let held : ◌≡◌ {A = ℕ → Bool} (λ q. within (without p xs) q || m.held q) (λ q. not (eqb q p) && (within xs q || m.held q)) = fun_ext (λ q. ap (λ b. b || m.held q) (within_without p xs q) ∙ not_out (eqb q p) (within xs q) (m.held q) (λ e. ap m.held (eqb-true q p e) ∙ ok.fresh p there)) in
        let shorter = length_without p xs ok.apart there in
        let holds : (32 - length (without p xs)) + m.holds ≡ ((32 - length xs) + m.holds) + 1 = omega arith in
        let e : held_over (without p xs) m ≡ lifted (held_over xs m) p = λ i. record { n = m.n; stock = m.stock; places = m.places; sealed = m.sealed; held = held i; holds = holds i } in
        e ∙ sym (ap (λ r. cond (is_ok r) (lifted (held_over xs m) p) (held_over xs m)) lift_taken)

  -- lift, passed down
  module _ (ok : OwnOk m.held m.n xs) (out : within xs p ≡ false) where
    pub let_ok : OwnOk (lift_leaves m p).held (lift_leaves m p).n xs
    let_ok =
        elim (is_ok (lift_answer m p)) as (λ b. OwnOk (cond b (lifted m p) m).held (cond b (lifted m p) m).n xs) [
          | true ↦ record {
            apart = ok.apart;
            fresh = λ q h. and_right (not (eqb q p)) (m.held q) (ok.fresh q h);
            inside = ok.inside;
          }
          | false ↦ ok
        ]

    pub lift_same : lift_answer m p ≡ lift_answer (held_over xs m) p
    lift_same = sym (simp out)

    pub lift_passed : held_over xs (lift_leaves m p) ≡ lift_leaves (held_over xs m) p
    lift_passed =
        let held : ◌≡◌ {A = ℕ → Bool} (λ q. within xs q || (not (eqb q p) && m.held q)) (λ q. not (eqb q p) && (within xs q || m.held q)) = fun_ext (λ q. shift_not (eqb q p) (within xs q) (m.held q) (λ e. ap (within xs) (eqb-true q p e) ∙ out)) in
        let holds : (32 - length xs) + (m.holds + 1) ≡ ((32 - length xs) + m.holds) + 1 = omega arith in
        let e : held_over xs (lifted m p) ≡ lifted (held_over xs m) p = λ i. record { n = m.n; stock = m.stock; places = m.places; sealed = m.sealed; held = held i; holds = holds i } in
        over_cond (held_over xs) (is_ok (lift_answer m p)) (lifted m p) m
        ∙ ap (λ r. cond (is_ok r) (held_over xs (lifted m p)) (held_over xs m)) lift_same
        ∙ ap (λ r. cond (is_ok (lift_answer (held_over xs m) p)) r (held_over xs m)) e

  -- what the checks of `hold` have met
  pub record MayHold : Type 0 where
    pub inside : p < m.n
    pub out : within xs p ≡ false
    pub unheld : m.held p ≡ false

  pub may_hold : ◌≡◌ {A = Result (Unit {0}) ℕ} (Ok tt) (cond (outside m p) (Err 6) (cond (within xs p || m.held p) (Err 10) (Ok tt))) → MayHold
  may_hold e = go (outside m p) (within xs p) (m.held p) refl refl refl e
    where
      go : (a b c : Bool) → outside m p ≡ a → within xs p ≡ b → m.held p ≡ c → ◌≡◌ {A = Result (Unit {0}) ℕ} (Ok tt) (cond a (Err 6) (cond (b || c) (Err 10) (Ok tt))) → MayHold
      go true b c ha hb hc h = absurd (err_ok 6 tt (sym h))
      go false true c ha hb hc h = absurd (err_ok 10 tt (sym h))
      go false false true ha hb hc h = absurd (err_ok 10 tt (sym h))
      go false false false ha hb hc h = record { inside = leb-false m.n p ha; out = hb; unheld = hc }
