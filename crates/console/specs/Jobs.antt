-- The jobs of a plan, as they are printed.
use Rattle.std.specs.Prelude.{ℕ, cond, Bool, not, ◌&&◌, List, [], ◌∷◌, ◌++◌, length, Some, None, Ok, Err, Option, Result, ◌==◌, nat_lt, codes, option_map, slice_index}
use Rattle.std.specs.Result.{result_ok}
use Rattle.std.specs.List.{range_with_len, flat_map}
use Rattle.paths.specs.declared.arc.Arc.{Arc}
use Rattle.catalogue.specs.Refusals.{refusal_text}
use Rattle.catalogue.specs.declared.refusal.Refusal.{Refusal}
use Rattle.tables.specs.Rows.{row_answer}
use Rattle.graphs.specs.declared.record.PackageRecord.{PackageRecord}
use Rattle.graphs.specs.Records.{no_wave, of}
use Rattle.plans.specs.declared.counts.PlanCounts.{PlanCounts}
use Rattle.plans.specs.Plans.{job, wait, wave, counts}
use Rattle.console.specs.Grammar.{field}
use Rattle.console.specs.Replies.{total_text, reply_text}
use Rattle.console.specs.declared.reply.Reply.{Reply}
use Rattle.console.specs.declared.reply.Reply.TheVariants.{Done, Label, Planned}

-- each of the numbers below k that passes a test, as a field, in rising order
abbrev pub fields_of : (ℕ → Bool) → ℕ → List ℕ
fields_of test k = flat_map (λ b. cond (test b) (field b) []) (range_with_len 0 k)

-- the line of a job: its name, its wave, and which of so many packages name jobs that it waits for
abbrev pub line_text : ℕ → ℕ → (ℕ → Bool) → ℕ → List ℕ
line_text name wave waits k = codes "job" ++ (field name ++ (codes " wave" ++ (field wave ++ (codes " waits" ++ fields_of waits k))))

-- a row of a set table has a 2 for each job that is waited for
abbrev pub awaited : List ℕ → ℕ → Bool
awaited row b = slice_index row b == 2

abbrev pub job_text : ℕ → ℕ → List ℕ → List ℕ
job_text name wave row = line_text name wave (awaited row) (length row)

-- is this the record of a job's name, in this wave?
abbrev pub names : PackageRecord → ℕ → ℕ → Bool
names own wave name = own.group == name && (own.wave == wave && not (wave == no_wave))

-- the job that package `name` names, if that is one of this wave: its name, its wave and its row
abbrev pub job_of : List PackageRecord → List ℕ → ℕ → ℕ → ℕ → Option (ℕ × ℕ × List ℕ)
job_of records sets n wave name =
    cond (nat_lt name (length records) && names (of records name) wave name) (option_map (λ row. (name, wave, row)) (result_ok (row_answer sets n name))) None

-- its line, ended by a line feed; nothing where there is none
abbrev pub job_line : Option (ℕ × ℕ × List ℕ) → List ℕ
job_line None = []
job_line (Some j) = job_text j.0 j.1 j.2 ++ (10 ∷ [])

-- the lines of the jobs of one wave, by name, and of all below so many waves, wave by wave
abbrev pub wave_text : List PackageRecord → List ℕ → ℕ → ℕ → ℕ → List ℕ
wave_text records sets n wave names = flat_map (λ name. job_line (job_of records sets n wave name)) (range_with_len 0 names)

abbrev pub waves_text : List PackageRecord → List ℕ → ℕ → ℕ → List ℕ
waves_text records sets n waves = flat_map (λ wave. wave_text records sets n wave n) (range_with_len 0 waves)

-- a plan in records, a set table and counts, as it is printed
abbrev pub plan_text : List PackageRecord → List ℕ → ℕ → PlanCounts → List ℕ
plan_text records sets n told = waves_text records sets n told.waves ++ total_text told

-- an answer to a line
abbrev pub answer_text : Result Reply Refusal → List PackageRecord → List ℕ → ℕ → List ℕ
answer_text (Ok (Planned told)) records sets n = plan_text records sets n told
answer_text (Ok Done) records sets n = reply_text Done
answer_text (Ok (Label l)) records sets n = reply_text (Label l)
answer_text (Err e) records sets n = refusal_text e

-- the plan for changed packages, by the definitions, as it is printed
module _ {K : Type 0} (arcs : List (Arc K)) (n : ℕ) (changed : List ℕ) where
  abbrev pub line_of : ℕ → ℕ → List ℕ
  line_of w a = cond (job arcs n changed a && wave arcs n changed a == w) (line_text a w (wait arcs n changed a) n ++ (10 ∷ [])) []

  abbrev pub plan_lines : List ℕ
  plan_lines = flat_map (λ w. flat_map (λ a. line_of w a) (range_with_len 0 n)) (range_with_len 0 (counts arcs n changed).waves)

  abbrev pub text_of_plan : List ℕ
  text_of_plan = plan_lines ++ total_text (counts arcs n changed)
