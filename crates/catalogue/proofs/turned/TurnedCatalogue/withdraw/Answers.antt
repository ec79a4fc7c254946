use Rattle.std.proofs.Common.{ap, ◌∙◌}
use Rattle.catalogue.specs.Turns.{turned}
use Rattle.catalogue.proofs.Turning.{withdraw_turned, withdraw_turned_leaves}
use Rattle.catalogue.proofs.turned.TurnedCatalogue.withdraw.Goals as goal

pub returns : goal.returns
returns g c =
    let m = g.C.Catalogue.meaning c.args.self.now.below in
    let e = c.withdraw_turned.ensures in
    record {
      answers = e.answers ∙ withdraw_turned m c.args.from c.args.to;
      leaves = ap turned e.leaves ∙ withdraw_turned_leaves m c.args.from c.args.to;
    }
