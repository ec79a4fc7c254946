use Rattle.std.proofs.Common.{rules}
use Rattle.catalogue.proofs.Listed.{any_within}
use Rattle.catalogue.proofs.holds.HeldList.has.Goals as goal

pub returns : goal.returns
returns c = search (rules, any_within c.args.self.now.list.items c.args.p)
