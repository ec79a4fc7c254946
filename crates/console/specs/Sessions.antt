-- What a line does.
use Rattle.std.specs.Prelude.{ℕ, cond, Bool, false, ◌||◌, List, [], ◌∷◌, ◌++◌, length, is_ok, Some, None, Ok, Err, Option, Result, ◌==◌, nat_lt, codes, decimal}
use Rattle.std.specs.Option.{option_map_or}
use Rattle.std.specs.Result.{result_unwrap_or}
use Rattle.labels.specs.declared.kinds.Minutes.{Minutes}
use Rattle.labels.specs.Kinds.{minutes_ops, minutes_of}
use Rattle.catalogue.specs.Meanings.{Meaning, in_force}
use Rattle.catalogue.specs.Refusals.{on_ok, then}
use Rattle.catalogue.specs.declared.call.Call.{Call}
use Rattle.catalogue.specs.declared.call.Call.TheVariants as calls
use Rattle.catalogue.specs.Runs.{call_answer, step}
use Rattle.tables.specs.Closings.{closing_leaves, label_answer}
use Rattle.graphs.specs.declared.record.PackageRecord.{PackageRecord}
use Rattle.plans.specs.Answers.{plan_answer, plan_leaves}
use Rattle.runs.specs.Runs.{Lengths, lengths}
use Rattle.runs.specs.declared.step.Outcome.{Outcome}
use Rattle.runs.specs.declared.step.Outcome.TheVariants as outcomes
use Rattle.console.specs.declared.command.Command.{Command}
use Rattle.console.specs.declared.command.Command.TheVariants as commands
use Rattle.console.specs.declared.reply.Reply.{Reply}
use Rattle.console.specs.declared.reply.Reply.TheVariants as replies
use Rattle.console.specs.Grammar.{parsed}
use Rattle.console.specs.Replies.{reply_text}
use Rattle.console.specs.Jobs.{text_of_plan}

-- the n that a command sets: 1 to 64
abbrev pub sets : Command → Result ℕ ℕ
sets (commands.Size p) = cond (p == 0 || nat_lt 64 p) (Err 1) (Ok p)
sets (commands.Admit f t m) = Err 16
sets (commands.Withdraw f t) = Err 16
sets (commands.Hold p) = Err 16
sets (commands.Lift p) = Err 16
sets (commands.Label f t) = Err 16
sets (commands.Plan p) = Err 16

-- the call that a command makes; to set n again is none, and so is to ask for a label or for a plan
abbrev pub call_of : Command → Option (Call Minutes)
call_of (commands.Size p) = None
call_of (commands.Admit f t m) = Some (calls.Admit f t (minutes_of m))
call_of (commands.Withdraw f t) = Some (calls.Withdraw f t)
call_of (commands.Hold p) = Some (calls.Hold p)
call_of (commands.Lift p) = Some (calls.Lift p)
call_of (commands.Label f t) = None
call_of (commands.Plan p) = None

-- the changed packages of the plan that a command asks for
abbrev pub changed_by : Command → List ℕ
changed_by (commands.Plan p) = p ∷ []
changed_by c = []

-- how long the buffers of a session are: table, records, work words and set table
abbrev pub room : List Minutes → List PackageRecord → List ℕ → List ℕ → Lengths
room table records words sets = lengths table [] [] records words sets

module _ (m : Meaning Minutes) where
  -- what a command answers once n is set; what it leaves of the catalogue, of the table and of the set table; and does
  -- it make a plan?
  abbrev pub executed : Lengths → Command → Result Reply ℕ
  executed t (commands.Label f g) = on_ok (λ l. replies.Label l) (label_answer minutes_ops m t.table f g)
  executed t (commands.Plan p) = on_ok (λ told. replies.Planned told) (plan_answer m (p ∷ []) t.sets t.records t.words)
  executed t c = on_ok (λ _. replies.Done) (option_map_or (call_answer minutes_ops m) (call_of c) (Err 16))

  abbrev pub left : Command → Meaning Minutes
  left c = option_map_or (step minutes_ops m) (call_of c) m

  abbrev pub table_left : Command → List Minutes → List Minutes
  table_left (commands.Label f g) old = closing_leaves minutes_ops m (label_answer minutes_ops m (length old) f g) old
  table_left c old = old

  abbrev pub sets_left : Lengths → Command → List ℕ → List ℕ
  sets_left t (commands.Plan p) old = plan_leaves m (p ∷ []) (plan_answer m (p ∷ []) t.sets t.records t.words) old
  sets_left t c old = old

  abbrev pub plans : Lengths → Command → Bool
  plans t (commands.Plan p) = is_ok (plan_answer m (p ∷ []) t.sets t.records t.words)
  plans t c = false

-- what a line answers before n is set
abbrev pub opening : List ℕ → Result ℕ ℕ
opening line = then (parsed line) sets

abbrev pub changed_in : List ℕ → List ℕ
changed_in line = result_unwrap_or (on_ok changed_by (parsed line)) []

-- the text of an answer, of a plan for these changed packages
abbrev pub text_of : Meaning Minutes → List ℕ → Result Reply ℕ → List ℕ
text_of m changed (Ok (replies.Planned told)) = text_of_plan (in_force m) m.n changed
text_of m changed (Ok replies.Done) = reply_text replies.Done
text_of m changed (Ok (replies.Label l)) = reply_text (replies.Label l)
text_of m changed (Err k) = codes "refused " ++ decimal k

module _ (m : Meaning Minutes) where
  -- the same of a line, and its answer as it is printed
  abbrev pub obeyed : Lengths → List ℕ → Result Reply ℕ
  obeyed t line = then (parsed line) (executed m t)

  abbrev pub after : List ℕ → Meaning Minutes
  after line = result_unwrap_or (on_ok (left m) (parsed line)) m

  abbrev pub table_after : List ℕ → List Minutes → List Minutes
  table_after line old = result_unwrap_or (on_ok (λ c. table_left m c old) (parsed line)) old

  abbrev pub sets_after : Lengths → List ℕ → List ℕ → List ℕ
  sets_after t line old = result_unwrap_or (on_ok (λ c. sets_left m t c old) (parsed line)) old

  abbrev pub plans_on : Lengths → List ℕ → Bool
  plans_on t line = result_unwrap_or (on_ok (plans m t) (parsed line)) false

  abbrev pub said : Lengths → List ℕ → List ℕ
  said t line = text_of m (changed_in line) (obeyed t line)

-- as the program replies
abbrev pub reply_of : Outcome → Reply
reply_of (outcomes.Planned told) = replies.Planned told
reply_of o = replies.Done
