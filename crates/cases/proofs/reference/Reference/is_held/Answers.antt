use Rattle.std.proofs.Common.{rules}
use Rattle.catalogue.proofs.Listed.{any_within}
use Rattle.cases.proofs.reference.Reference.is_held.Goals as goal

pub returns : goal.returns
returns g c = search (rules, any_within c.args.self.now.held.items c.args.p)
