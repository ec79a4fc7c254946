use Rattle.std.proofs.Common.{Ok, ap}
use Rattle.labels.specs.Alike.{minutes_is}
use Rattle.catalogue.specs.declared.call.Call.TheVariants.{Admit}
use Rattle.console.proofs.session.CallMinutesTryFromCommand.try_from.Goals as goal

pub returns-in-Admit : goal.returns-in-Admit
returns-in-Admit c =
    let a = c.in-Admit in
    rw a.is (ap (λ m. Ok (Admit a.from a.to m)) (minutes_is _))
