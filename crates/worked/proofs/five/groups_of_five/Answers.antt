use Rattle.worked.proofs.SixArcs.{six_named}
use Rattle.worked.proofs.five.groups_of_five.Goals as goal

pub returns : goal.returns
returns c =
    six_named c.six_steps.result c.sort_five.result c.names.result c.six_steps.ensures c.sort_five.ensures.all c.sort_five.ensures.named c.names.ensures
