-- The calls and questions on a turned meaning.
use Rattle.std.proofs.Common.{◌≡◌, ℕ, cond, not, eqb, map, length, is_ok, filter, sym, ap, ◌∙◌, arith}
use mathlib.Core.Path.{fun_ext}
use lib.ListN.{length-map}
use Rattle.std.proofs.lemmas.Bool.Decides.{nat_tests}
use Rattle.labels.specs.Algebra.{Ops}
use Rattle.paths.specs.declared.arc.Arc.{Arc}
use Rattle.paths.specs.Arcs.{between, elsewhere, turn}
use Rattle.catalogue.specs.Meanings.{Meaning}
use Rattle.catalogue.specs.Calls.{matching, outside, admit_answer, withdraw_answer, withdraw_leaves, withdrawn}
use Rattle.catalogue.specs.Turns.{turned}
use Rattle.std.proofs.Math.Bool.{or_comm, and_comm}
use Rattle.catalogue.proofs.Choosing.{over_cond, kept_by_map}

module _ {L : Type 0} where
  pub admit_turned : (o : Ops L) (m : Meaning L) (f t : ℕ) (l : L) → admit_answer o m t f l ≡ admit_answer o (turned m) f t l
  admit_turned o m f t l =
      let e : eqb t f ≡ eqb f t = grind (arith, nat_tests) in
      rw (or_comm (outside m t) (outside m f), e)

  swapped : (f t : ℕ) → (λ (a : Arc L). between f t (turn a)) ≡ between t f
  swapped f t = fun_ext (λ a. and_comm (eqb a.to f) (eqb a.from t))

  swapped_not : (f t : ℕ) → (λ (a : Arc L). elsewhere f t (turn a)) ≡ elsewhere t f
  swapped_not f t = fun_ext (λ a. ap not (and_comm (eqb a.to f) (eqb a.from t)))

  matching_turned : (m : Meaning L) (f t : ℕ) → matching (turned m) f t ≡ matching m t f
  matching_turned m f t =
      ap length (kept_by_map (between f t) turn m.stock)
      ∙ length-map (filter (λ a. between f t (turn a)) m.stock) turn
      ∙ ap (λ p. length (filter p m.stock)) (swapped f t)

  others_turned : (m : Meaning L) (f t : ℕ) → filter (elsewhere f t) (map turn m.stock) ≡ map turn (filter (elsewhere t f) m.stock)
  others_turned m f t =
      kept_by_map (elsewhere f t) turn m.stock ∙ ap (λ p. map turn (filter p m.stock)) (swapped_not f t)

  pub withdraw_turned : (m : Meaning L) (f t : ℕ) → withdraw_answer m t f ≡ withdraw_answer (turned m) f t
  withdraw_turned m f t = rw (or_comm (outside m t) (outside m f), matching_turned m f t)

  pub withdraw_turned_leaves : (m : Meaning L) (f t : ℕ) → turned (withdraw_leaves m t f) ≡ withdraw_leaves (turned m) f t
  withdraw_turned_leaves m f t =
      let s : withdrawn (turned m) f t ≡ turned (withdrawn m t f) = simp (others_turned m f t, matching_turned m f t) in
      over_cond turned (is_ok (withdraw_answer m t f)) (withdrawn m t f) m
      ∙ ap (λ r. cond (is_ok r) (turned (withdrawn m t f)) (turned m)) (withdraw_turned m f t)
      ∙ ap (λ r. cond (is_ok (withdraw_answer (turned m) f t)) r (turned m)) (sym s)
