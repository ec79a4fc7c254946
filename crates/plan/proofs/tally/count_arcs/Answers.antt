use Rattle.std.proofs.Common.{◌∙◌}
use Rattle.plan.specs.Tally.{taken}
use Rattle.plan.proofs.Counting.{places_counted}
use Rattle.plan.proofs.tally.count_arcs.Goals as goal

pub returns : goal.returns
returns g c = c.count_places.ensures ∙ places_counted (g.C.Catalogue.meaning c.args.catalogue.now) (taken c.args.records.now c.args.within)
