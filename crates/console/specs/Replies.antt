-- How replies are printed.
use Rattle.std.specs.Prelude.{ℕ, List, ◌++◌, codes}
use Rattle.labels.specs.Kinds.{minutes_text}
use Rattle.plans.specs.declared.counts.PlanCounts.{PlanCounts}
use Rattle.console.specs.Grammar.{field}
use Rattle.console.specs.declared.reply.Reply.{Reply}
use Rattle.console.specs.declared.reply.Reply.TheVariants.{Done, Label, Planned}

-- the five counts of a plan
abbrev pub total_text : PlanCounts → List ℕ
total_text c = codes "total" ++ (field c.jobs ++ (field c.waves ++ (field c.merged ++ (field c.skipped ++ field c.inner))))

abbrev pub reply_text : Reply → List ℕ
reply_text Done = codes "ok"
reply_text (Label l) = minutes_text l
reply_text (Planned c) = total_text c
