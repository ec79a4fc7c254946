-- Worked cases, each from a making and a list of calls.
use Rattle.std.specs.Prelude.{◌≡◌, ℕ, List, [], ◌∷◌, ◌++◌, map, Ok, Err, Result}
use Rattle.std.specs.List.{range_with_len}
use Rattle.labels.specs.declared.kinds.Reach.TheVariants.{Yes}
use Rattle.labels.specs.declared.kinds.Minutes.{Minutes}
use Rattle.labels.specs.declared.kinds.Licence.{Licence}
use Rattle.labels.specs.Kinds.{reach_ops, reach_named, minutes_ops, minutes_named, minutes_of, licence_ops, licence_named, mask_of}
use Rattle.paths.specs.Chains.{L}
use Rattle.paths.specs.Tables.{rounds_made}
use Rattle.paths.specs.Groups.{groups}
use Rattle.catalogue.specs.Meanings.{in_force}
use Rattle.catalogue.specs.Makings.{Making, ledger_of, holding_over}
use Rattle.catalogue.specs.declared.call.Call.{Call}
use Rattle.catalogue.specs.declared.call.Call.TheVariants.{Admit, Withdraw, Hold}
use Rattle.graphs.specs.Answers.{sort_answer, order_answer}
use Rattle.plans.specs.declared.counts.PlanCounts.{PlanCounts}
use Rattle.plans.specs.Plans.{jobs, wave_of, bytes}
use Rattle.plans.specs.Answers.{plan_answer}
use Rattle.worked.specs.Asked.{asked}
use Rattle.worked.specs.Fives.{counted}

-- six arcs between five packages, each with what f makes of its minutes
abbrev pub six : {K : Type 0} → (ℕ → K) → List (Call K)
six f = Admit 0 1 (f 4) ∷ Admit 1 2 (f 3) ∷ Admit 0 2 (f 9) ∷ Admit 2 3 (f 1) ∷ Admit 3 2 (f 2) ∷ Admit 4 0 (f 5) ∷ []

abbrev pub five : Making
five = ledger_of 5 8

-- the minutes of a pair, 4294967295 for none
abbrev pub minutes : Making → List (Call Minutes) → ℕ → ℕ → Result ℕ ℕ
minutes making calls i j = asked minutes_ops minutes_named making calls (λ m. (L minutes_ops (in_force m) m.n i j).value)

abbrev pub licences : Making → List (Call Licence) → ℕ → ℕ → Result ℕ ℕ
licences making calls i j = asked licence_ops licence_named making calls (λ m. (L licence_ops (in_force m) m.n i j).mask)

-- the plan for changed packages, in 25 bytes, five records and so many work words
abbrev pub plan_for : Making → List (Call Minutes) → List ℕ → ℕ → Result (Result PlanCounts ℕ) ℕ
plan_for making calls changed words = asked minutes_ops minutes_named making calls (λ m. plan_answer m changed 25 5 words)

pub record WorkedCases : Type 0 where
  -- the longer chain is quicker than the arc
  pub by_a_chain : minutes five (six minutes_of) 0 2 ≡ Ok 7
  pub far : minutes five (six minutes_of) 4 3 ≡ Ok 13
  pub round_a_loop : minutes five (six minutes_of) 2 2 ≡ Ok 3
  pub one_way : minutes five (six minutes_of) 2 3 ≡ Ok 1
  pub other_way : minutes five (six minutes_of) 3 2 ≡ Ok 2
  pub no_chain : minutes five (six minutes_of) 0 0 ≡ Ok 4294967295
  pub rounds : asked minutes_ops minutes_named five (six minutes_of) (λ m. rounds_made minutes_ops (in_force m) m.n) ≡ Ok 4
  pub rounds_of_reach : asked reach_ops reach_named five (six (λ _. Yes)) (λ m. rounds_made reach_ops (in_force m) m.n) ≡ Ok 3
  -- a slower arc beside a quicker one changes nothing
  pub beside : minutes five (six minutes_of ++ (Admit 0 1 (minutes_of 6) ∷ [])) 0 1 ≡ Ok 4
  -- no chain leads over a held package
  pub held : minutes (holding_over five) (six minutes_of ++ (Hold 1 ∷ [])) 4 3 ≡ Ok 15
  pub longest : minutes (ledger_of 4 3) (Admit 0 1 (minutes_of 4294967290) ∷ Admit 1 2 (minutes_of 4) ∷ Admit 2 3 (minutes_of 5) ∷ []) 0 2 ≡ Ok 4294967294
  -- a sum above 4294967294 is none
  pub too_long : minutes (ledger_of 4 3) (Admit 0 1 (minutes_of 4294967290) ∷ Admit 1 2 (minutes_of 4) ∷ Admit 2 3 (minutes_of 5) ∷ []) 0 3 ≡ Ok 4294967295
  pub one_too_long : minutes (ledger_of 3 2) (Admit 0 1 (minutes_of 4294967290) ∷ Admit 1 2 (minutes_of 5) ∷ []) 0 2 ≡ Ok 4294967295
  -- only what both chains bring
  pub shared : licences (ledger_of 3 3) (Admit 0 1 (mask_of 3) ∷ Admit 1 2 (mask_of 4) ∷ Admit 0 2 (mask_of 6) ∷ []) 0 2 ≡ Ok 6
  -- the third and the fourth package lead to each other
  pub groups_named : asked minutes_ops minutes_named five (six minutes_of) (λ m. groups (in_force m) m.n) ≡ Ok (0 ∷ 1 ∷ 2 ∷ 2 ∷ 4 ∷ [])
  pub groups_counted : asked minutes_ops minutes_named five (six minutes_of) (λ m. sort_answer m 5 86) ≡ Ok (Ok 4)
  -- so a closing by order is refused
  pub looped : asked minutes_ops minutes_named five (six minutes_of) (λ m. order_answer m 25 5 86) ≡ Ok (Err 14)
  -- and taken without the arc from the fourth back to the third
  pub straight : asked minutes_ops minutes_named five (six minutes_of ++ (Withdraw 3 2 ∷ [])) (λ m. order_answer m 25 5 85) ≡ Ok (Ok tt)
  -- a change of the fourth package: its group, then the second, the first and the fifth, each waiting for the one before
  pub plan_jobs : asked minutes_ops minutes_named five (six minutes_of) (λ m. jobs (in_force m) m.n (3 ∷ [])) ≡ Ok (0 ∷ 1 ∷ 2 ∷ 4 ∷ [])
  pub plan_waves : asked minutes_ops minutes_named five (six minutes_of) (λ m. map (wave_of (in_force m) m.n (3 ∷ [])) (range_with_len 0 m.n)) ≡ Ok (2 ∷ 1 ∷ 0 ∷ 0 ∷ 3 ∷ [])
  -- the first waits for the second alone, though it has an arc to that group too
  pub plan_bytes :
      asked minutes_ops minutes_named five (six minutes_of) (λ m. bytes (in_force m) m.n (3 ∷ []))
      ≡ Ok (0 ∷ 2 ∷ 1 ∷ 0 ∷ 0 ∷ 0 ∷ 0 ∷ 2 ∷ 0 ∷ 0 ∷ 0 ∷ 0 ∷ 0 ∷ 0 ∷ 0 ∷ 0 ∷ 0 ∷ 0 ∷ 0 ∷ 0 ∷ 2 ∷ 1 ∷ 1 ∷ 0 ∷ 0 ∷ [])
  pub plan_counted : plan_for five (six minutes_of) (3 ∷ []) 86 ≡ Ok (Ok (counted 4 4 3 1 2))
  pub plan_of_first : plan_for five (six minutes_of) (0 ∷ []) 86 ≡ Ok (Ok (counted 2 2 1 0 0))
  pub plan_of_none : plan_for five (six minutes_of) [] 86 ≡ Ok (Ok (counted 0 0 0 0 0))
  -- an arc beside another is skipped
  pub plan_beside : plan_for five (six minutes_of ++ (Admit 0 1 (minutes_of 6) ∷ [])) (3 ∷ []) 87 ≡ Ok (Ok (counted 4 4 3 2 2))
  -- the arcs of a held package are out of the plan, and its change is refused
  pub plan_held : plan_for (holding_over five) (six minutes_of ++ (Hold 1 ∷ [])) (3 ∷ []) 86 ≡ Ok (Ok (counted 3 3 2 0 2))
  pub held_changed : plan_for (holding_over five) (six minutes_of ++ (Hold 1 ∷ [])) (1 ∷ []) 86 ≡ Ok (Err 15)
