-- What each question and each call answers, and what a call leaves.
use Rattle.std.specs.Prelude.{ℕ, ◌+◌, ◌-◌, Bool, cond, not, ◌&&◌, ◌||◌, [], ◌∷◌, ◌++◌, length, is_ok, Some, None, Ok, Err, filter, Option, Result, ◌==◌, nat_le}
use Rattle.std.specs.List.{slice_get}
use Rattle.labels.specs.Algebra.{Ops}
use Rattle.paths.specs.declared.arc.Arc.{Arc}
use Rattle.paths.specs.Arcs.{arc, between, elsewhere}
use Rattle.catalogue.specs.Meanings.{Meaning, free_ends}

module _ {L : Type 0} where
  -- an arc that stands at a place, if it is in force
  abbrev pub unheld : Meaning L → Option (Arc L) → Option (Arc L)
  unheld m None = None
  unheld m (Some a) = cond (free_ends m a) (Some a) None

  abbrev pub arc_at : Meaning L → ℕ → Option (Arc L)
  arc_at m k = unheld m (slice_get m.stock k)

  -- p is no package number
  abbrev pub outside : Meaning L → ℕ → Bool
  outside m p = nat_le m.n p

  abbrev pub is_none : Ops L → L → Bool
  is_none o l = o.same l o.none

  -- the first check not met gives the number
  abbrev pub admit_answer : Ops L → Meaning L → ℕ → ℕ → L → Result (Unit {0}) ℕ
  admit_answer o m f t l =
      cond m.sealed (Err 5)
      (cond (outside m f || outside m t) (Err 6)
      (cond (f == t) (Err 7)
      (cond (is_none o l) (Err 4)
      (cond (m.places == 0) (Err 8) (Ok tt)))))

  -- one arc more, at the stock's end
  abbrev pub admitted : Meaning L → ℕ → ℕ → L → Meaning L
  admitted m f t l = record { n = m.n; stock = m.stock ++ (arc f t l ∷ []); places = m.places - 1; sealed = m.sealed; held = m.held; holds = m.holds }

  abbrev pub admit_leaves : Ops L → Meaning L → ℕ → ℕ → L → Meaning L
  admit_leaves o m f t l = cond (is_ok (admit_answer o m f t l)) (admitted m f t l) m

  -- how many stock arcs have these ends
  abbrev pub matching : Meaning L → ℕ → ℕ → ℕ
  matching m f t = length (filter (between f t) m.stock)

  abbrev pub withdraw_answer : Meaning L → ℕ → ℕ → Result ℕ ℕ
  withdraw_answer m f t =
      cond m.sealed (Err 5)
      (cond (outside m f || outside m t) (Err 6)
      (cond (matching m f t == 0) (Err 9) (Ok (matching m f t))))

  -- the arcs with other ends, in their order
  abbrev pub withdrawn : Meaning L → ℕ → ℕ → Meaning L
  withdrawn m f t = record { n = m.n; stock = filter (elsewhere f t) m.stock; places = m.places + matching m f t; sealed = m.sealed; held = m.held; holds = m.holds }

  abbrev pub withdraw_leaves : Meaning L → ℕ → ℕ → Meaning L
  withdraw_leaves m f t = cond (is_ok (withdraw_answer m f t)) (withdrawn m f t) m

  abbrev pub hold_answer : Meaning L → ℕ → Result (Unit {0}) ℕ
  hold_answer m p =
      cond (outside m p) (Err 6)
      (cond (m.held p) (Err 10)
      (cond (m.holds == 0) (Err 11) (Ok tt)))

  abbrev pub held_too : Meaning L → ℕ → Meaning L
  held_too m p = record { n = m.n; stock = m.stock; places = m.places; sealed = m.sealed; held = λ q. (q == p) || m.held q; holds = m.holds - 1 }

  abbrev pub hold_leaves : Meaning L → ℕ → Meaning L
  hold_leaves m p = cond (is_ok (hold_answer m p)) (held_too m p) m

  abbrev pub lift_answer : Meaning L → ℕ → Result (Unit {0}) ℕ
  lift_answer m p = cond (outside m p) (Err 6) (cond (m.held p) (Ok tt) (Err 12))

  abbrev pub lifted : Meaning L → ℕ → Meaning L
  lifted m p = record { n = m.n; stock = m.stock; places = m.places; sealed = m.sealed; held = λ q. not (q == p) && m.held q; holds = m.holds + 1 }

  abbrev pub lift_leaves : Meaning L → ℕ → Meaning L
  lift_leaves m p = cond (is_ok (lift_answer m p)) (lifted m p) m
