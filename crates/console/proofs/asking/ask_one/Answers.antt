use Rattle.console.proofs.Alone.{promised_alone}
use Rattle.console.proofs.asking.ask_one.Goals as goal

pub returns-clause-promise : goal.returns-clause-promise
returns-clause-promise g c = promised_alone _ _ _ _ _ _ _ _ _ c.ask.ensures.promise
