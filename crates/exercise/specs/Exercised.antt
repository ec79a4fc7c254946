-- The answers of a catalogue, from its meaning and the arguments.
use Rattle.std.specs.Prelude.{◌≡◌, ℕ, List, [], ◌∷◌, length, Ok, Err, Option, Result, nat_lt}
use Rattle.labels.specs.Algebra.{Ops}
use Rattle.catalogue.specs.declared.refusal.Refusal.{Refusal}
use Rattle.catalogue.specs.declared.call.Call.{Call}
use Rattle.catalogue.specs.declared.call.Call.TheVariants.{Admit, Withdraw, Hold, Lift}
use Rattle.catalogue.specs.Refusals.{number, answer}
use Rattle.catalogue.specs.Meanings.{Meaning}
use Rattle.catalogue.specs.Calls.{arc_at, admit_answer, hold_answer, lift_answer, withdraw_answer}
use Rattle.catalogue.specs.Runs.{reckon}
use Rattle.catalogue.specs.Makings.{Making, first_meaning}
use Rattle.exercise.specs.declared.answers.Arguments.{Arguments}
use Rattle.exercise.specs.declared.answers.Replies.{Replies}
use Rattle.exercise.specs.declared.answers.Outcomes.{Outcomes}
use Rattle.exercise.specs.declared.answers.Answers.{Answers}

module _ {L : Type 0} where
  abbrev pub admits : Arguments L → Call L
  admits w = Admit w.from w.to w.label

  -- the calls that are made, in their order
  abbrev pub calls : Arguments L → List (Call L)
  calls w = admits w ∷ Hold w.package ∷ Lift w.package ∷ Withdraw w.from w.to ∷ []

  pub record Asked (m : Meaning L) (w : Arguments L) (r : Replies L) : Type 0 where
    pub n : r.n ≡ m.n
    pub stock_len : r.stock_len ≡ length m.stock
    pub places_left : r.places_left ≡ m.places
    pub sealed : r.sealed ≡ m.sealed
    pub is_held : r.is_held ≡ m.held w.package
    pub can_hold : r.can_hold ≡ nat_lt 0 m.holds
    pub arc : r.arc ≡ arc_at m w.place

module _ {L : Type 0} (o : Ops L) where
  pub record Called (m : Meaning L) (w : Arguments L) (r : Outcomes) : Type 0 where
    pub admit : answer r.admit ≡ admit_answer o m w.from w.to w.label
    pub hold : answer r.hold ≡ hold_answer (reckon o m (admits w ∷ [])) w.package
    pub lift : answer r.lift ≡ lift_answer (reckon o m (admits w ∷ Hold w.package ∷ [])) w.package
    pub withdraw : answer r.withdraw ≡ withdraw_answer (reckon o m (admits w ∷ Hold w.package ∷ Lift w.package ∷ [])) w.from w.to

  pub record Exercised (m : Meaning L) (w : Arguments L) (r : Answers L) : Type 0 where
    pub asked : Asked m w r.replies
    pub called : Called m w r.outcomes

  -- exercised as that first meaning says, or refused with its number
  abbrev pub FromFirst : Result (Meaning L) ℕ → Arguments L → Result (Answers L) Refusal → Type 0
  FromFirst (Ok m) w (Ok r) = Exercised m w r
  FromFirst (Ok m) w (Err e) = ⊥
  FromFirst (Err k) w (Ok r) = ⊥
  FromFirst (Err k) w (Err e) = number e ≡ k

  abbrev pub FromMaking : (ℕ → Option L) → Making → Arguments L → Result (Answers L) Refusal → Type 0
  FromMaking named making w r = FromFirst (first_meaning o named making) w r
