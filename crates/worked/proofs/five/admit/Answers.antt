use Rattle.std.proofs.Common.{ap}
use Rattle.labels.specs.Alike.{minutes_is}
use Rattle.catalogue.specs.declared.call.Call.TheVariants.{Admit}
use Rattle.runs.specs.declared.step.StepFor.TheVariants.{Alter}
use Rattle.worked.proofs.five.admit.Goals as goal

pub returns : goal.returns
returns c = ap (λ l. Alter (Admit c.args.from c.args.to l)) (minutes_is _)
