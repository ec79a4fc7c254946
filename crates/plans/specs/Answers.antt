-- What plan answers and leaves.
use Rattle.std.specs.Prelude.{ℕ, ◌*◌, cond, Bool, ◌||◌, List, [], ◌∷◌, ◌++◌, drop, is_ok, Ok, Err, Result}
use Rattle.catalogue.specs.Meanings.{Meaning, in_force}
use Rattle.catalogue.specs.Calls.{outside}
use Rattle.catalogue.specs.Refusals.{then}
use Rattle.tables.specs.Closings.{short}
use Rattle.graphs.specs.Answers.{lacks}
use Rattle.plans.specs.declared.counts.PlanCounts.{PlanCounts}
use Rattle.plans.specs.Plans.{counts, bytes}

module _ {K : Type 0} (m : Meaning K) where
  -- are so many bytes, records or work words too few to plan?
  abbrev pub plan_lacks : ℕ → ℕ → ℕ → Bool
  plan_lacks sets records words = short m.n sets || lacks m records words

  -- a changed number: 6 if it is no package, 15 if that is held
  abbrev pub package_answer : ℕ → Result (Unit {0}) ℕ
  package_answer p = cond (outside m p) (Err 6) (cond (m.held p) (Err 15) (Ok tt))

  -- number by number
  abbrev pub changed_answer : List ℕ → Result (Unit {0}) ℕ
  changed_answer [] = Ok tt
  changed_answer (p ∷ ps) = then (package_answer p) (λ _. changed_answer ps)

  abbrev pub plan_answer : List ℕ → ℕ → ℕ → ℕ → Result PlanCounts ℕ
  plan_answer changed sets records words =
      cond (plan_lacks sets records words) (Err 13) (then (changed_answer changed) (λ _. Ok (counts (in_force m) m.n changed)))

  -- the bytes, and then the old ones from n × n on; a refused plan leaves the table as it was
  abbrev pub plan_leaves : {A : Type 0} → List ℕ → Result A ℕ → List ℕ → List ℕ
  plan_leaves changed answer old = cond (is_ok answer) (bytes (in_force m) m.n changed ++ drop (m.n * m.n) old) old
