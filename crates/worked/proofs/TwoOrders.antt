-- Two plans for the same packages, by catalogues that are alike.
use Rattle.std.proofs.Common.{◌≡◌, ℕ, ◌*◌, min, true, false, cond, List, [], ◌∷◌, map, reverse, length, Ok, Err, Result, is_ok, inr, sym, refl, ap, ap₂, ◌∙◌, subst, take_all, arith}
use Rattle.std.specs.Borrow.{Bor}
use mathlib.Core.List.{Permᴰ}
use mathlib.Core.List.Permᴰ
use Rattle.labels.specs.Algebra.{Ops}
use Rattle.labels.specs.declared.kinds.Minutes.{Minutes}
use Rattle.labels.specs.Kinds.{minutes_ops, minutes_named, minutes_of}
use Rattle.paths.specs.declared.arc.Arc.{Arc}
use Rattle.paths.specs.Arcs.{arc}
use Rattle.sheets.specs.Sheets.{word_at, sheet_check}
use Rattle.catalogue.specs.declared.refusal.Refusal.{Refusal}
use Rattle.catalogue.specs.Refusals.{answer, number, on_ok, then}
use Rattle.catalogue.specs.Meanings.{Meaning, in_force}
use Rattle.catalogue.specs.Ledgers.{blank, ledger_made}
use Rattle.catalogue.specs.Makings.{sheet_of, turned_over, first_meaning}
use Rattle.graphs.specs.declared.record.PackageRecord.{PackageRecord}
use Rattle.plans.specs.Plans.{counts}
use Rattle.plans.specs.Answers.{plan_lacks, changed_answer, plan_answer}
use Rattle.plans.specs.Alike.{AlikeMeanings}
use Rattle.runs.specs.Steps.{Step}
use Rattle.runs.specs.declared.step.StepFor.TheVariants.{Alter}
use Rattle.runs.specs.declared.step.Outcome.{Outcome}
use Rattle.runs.specs.declared.step.Outcome.TheVariants as outcomes
use Rattle.runs.specs.Runs.{Lengths, memory}
use Rattle.runs.specs.Promises.{reckoned, falls_short, Compared}
use Rattle.worked.specs.declared.alike.TwoPlans.{TwoPlans}
use Rattle.worked.specs.declared.alike.TheConstants.{SHEET}
use Rattle.worked.specs.Worked.{five, six}
use Rattle.worked.specs.Fives.{PlannedFrom, AlikeThen, ComparedFrom, TwoAlike}
use Rattle.worked.proofs.Planned.{question}

-- a plan whose buffers suffice, for known packages, is taken
plan_taken : {K : Type 0} (m : Meaning K) (changed : List ℕ) (sets records words : ℕ) → plan_lacks m sets records words ≡ false → changed_answer m changed ≡ Ok tt
    → plan_answer m changed sets records words ≡ Ok (counts (in_force m) m.n changed)
plan_taken m changed sets records words enough known =
    ap (λ b. cond b (Err 13) (then (changed_answer m changed) (λ _. Ok (counts (in_force m) m.n changed)))) enough
    ∙ ap (λ r. then r (λ _. Ok (counts (in_force m) m.n changed))) known

module _ {K : Type 0} (o : Ops K) (packages : Bor (List ℕ)) where
  fits : (m : Meaning K) (t : Lengths) → t.records ≡ 5 → t.words ≡ 86 → t.sets ≡ 25 → falls_short m t (question o packages) ≡ plan_lacks m 25 5 86
  fits m t records words sets =
      ap (λ x. plan_lacks m (min 25 x) (min 5 t.records) (min 86 t.words)) sets
      ∙ ap₂ (λ r w. plan_lacks m 25 (min 5 r) (min 86 w)) records words

  pub alike_then : (m m' : Meaning K) (lent lent' : Lengths) (told told' : Result Outcome Refusal) (table changed found table' changed' found' : List K)
      (records records' : List PackageRecord) (words words' sets sets' : List ℕ)
      → Compared o m m' (question o packages) (question o packages) lent lent' (answer told) (answer told')
      (memory table changed found records words sets) (memory table' changed' found' records' words' sets')
      → lent.records ≡ 5 → lent.words ≡ 86 → lent.sets ≡ 25 → lent'.records ≡ 5 → lent'.words ≡ 86 → lent'.sets ≡ 25
      → AlikeThen m m' packages.now
      (record { first = record { told = told; records = records; sets = sets }; second = record { told = told'; records = records'; sets = sets' } })
  unfolding Compared AlikeThen
  alike_then m m' lent lent' told told' table changed found table' changed' found' records records' words words' sets sets' compared e f g e' f' g' same five enough enough' known first second =
      let taken : is_ok (answer told) ≡ true =
      ap is_ok first.told ∙ ap (λ r. is_ok (on_ok (λ c. outcomes.Planned c) r)) (plan_taken m packages.now 25 5 86 enough known) in
      let s = compared same refl refl ((λ x h. h), (λ x h. h)) (fits m lent e f g ∙ enough) (fits m' lent' e' f' g' ∙ enough') in
      let all = λ (rs : List PackageRecord) (many : length rs ≡ 5). take_all m.n rs (omega (arith, many, five)) in
      let square : m.n * m.n ≡ 25 = ap (λ k. k * k) five in
      let every = λ (bs : List ℕ) (long : length bs ≡ 25). take_all (m.n * m.n) bs (omega (arith, long, square)) in
      let one = sym (all records first.many) in
      let two = all records' second.many in
      record {
        taken = taken;
        told = s.0.told taken;
        groups_are = ap (map (λ r. r.group)) one ∙ s.0.groups (inr (inr (refl, taken))) ∙ ap (map (λ r. r.group)) two;
        waves_are = ap (map (λ r. r.wave)) one ∙ s.0.waves (inr (inr (refl, taken))) ∙ ap (map (λ r. r.wave)) two;
        sets_are = sym (every sets first.long) ∙ s.0.plans refl taken ∙ every sets' second.long;
      }

module _ {K : Type 0} (o : Ops K) (first second : Result (Meaning K) ℕ) (steps : List (Step K)) (changed : List ℕ) where
  pub compared_from : (m m' : Meaning K) (t : TwoPlans) → Ok m ≡ first → Ok m' ≡ second
      → PlannedFrom o (Ok m) steps changed t.first → PlannedFrom o (Ok m') [] changed t.second → AlikeThen (reckoned o m steps) m' changed t
      → ComparedFrom o first steps second changed (Ok t)
  unfolding PlannedFrom ComparedFrom
  compared_from m m' t made made' one two alike =
      subst (λ r. ComparedFrom o r steps second changed (Ok t)) made (subst (λ r. ComparedFrom o (Ok m) steps r changed (Ok t)) made' (one, two, alike))

  pub first_not_made : (e : Refusal) → Err (number e) ≡ first → ComparedFrom o first steps second changed (Err e)
  unfolding ComparedFrom
  first_not_made e refused = subst (λ r. ComparedFrom o r steps second changed (Err e)) refused refl

  pub second_not_made : (m : Meaning K) (e : Refusal) → Ok m ≡ first → Err (number e) ≡ second → ComparedFrom o first steps second changed (Err e)
  unfolding ComparedFrom
  second_not_made m e made refused =
      subst (λ r. ComparedFrom o r steps second changed (Err e)) made (subst (λ r. ComparedFrom o (Ok m) steps r changed (Err e)) refused refl)

-- the sheet of the six arcs, turned twice
abbrev from_sheet : Result (Meaning Minutes) ℕ
from_sheet = first_meaning minutes_ops minutes_named (turned_over (turned_over (sheet_of SHEET)))

abbrev a : ℕ → ℕ → ℕ → Arc Minutes
a i j k = arc i j (minutes_of k)

abbrev in_order : Meaning Minutes
in_order = record {
  n = 5;
  stock = a 0 1 4 ∷ a 0 2 9 ∷ a 1 2 3 ∷ a 2 3 1 ∷ a 3 2 2 ∷ a 4 0 5 ∷ [];
  places = 0;
  sealed = true;
  held = λ _. false;
  holds = 0;
}

read : from_sheet ≡ Ok in_order
unfolding word_at sheet_check
read = refl

abbrev last_first : List (Step Minutes)
last_first = map Alter (reverse (six minutes_of))

-- the ledger's arcs are the sheet's, but for their order
same_arcs : AlikeMeanings (reckoned minutes_ops (blank 5 8) last_first) in_order
same_arcs = record {
  n = refl;
  held = λ p. refl;
  arcs = Permᴰ.trans (Permᴰ.reverse (a 0 1 4 ∷ a 1 2 3 ∷ a 0 2 9 ∷ a 2 3 1 ∷ a 3 2 2 ∷ a 4 0 5 ∷ [])) (Permᴰ.cons refl (Permᴰ.swap refl refl));
}

module _ (places : ℕ) (steps : List (Step Minutes)) where
  abbrev Compares : Result TwoPlans Refusal → Type 0
  Compares r = ComparedFrom minutes_ops (ledger_made 5 places) steps from_sheet (3 ∷ []) r

  at_six : (r : Result TwoPlans Refusal) → Compares r → places ≡ 8 → steps ≡ last_first
      → ComparedFrom minutes_ops (Ok (blank 5 8)) last_first (Ok in_order) (3 ∷ []) r
  at_six r compared as_many are =
      subst (λ s. ComparedFrom minutes_ops (Ok (blank 5 8)) last_first s (3 ∷ []) r) read
      (subst (λ k. ComparedFrom minutes_ops (ledger_made 5 k) last_first from_sheet (3 ∷ []) r) as_many
      (subst (λ cs. ComparedFrom minutes_ops (ledger_made 5 places) cs from_sheet (3 ∷ []) r) are compared))

  pub two_alike : (r : Result TwoPlans Refusal) → Compares r → places ≡ 8 → steps ≡ last_first
      → TwoAlike five (reverse (six minutes_of)) (turned_over (turned_over (sheet_of SHEET))) [] (3 ∷ []) r
  unfolding ComparedFrom TwoAlike PlannedFrom AlikeThen
  two_alike (Ok t) compared as_many are =
      let both = at_six (Ok t) compared as_many are in (
        both.0,
        subst (λ s. PlannedFrom minutes_ops s [] (3 ∷ []) t.second) (sym read) both.1,
        both.2 same_arcs refl refl refl refl both.0 both.1,
      )
  two_alike (Err e) compared as_many are = at_six (Err e) compared as_many are
