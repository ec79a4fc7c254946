use Rattle.catalogue.specs.Meanings.{in_force}
use Rattle.paths.proofs.Groups.{grouped}
use Rattle.graphs.proofs.Edges.{ends}
use Rattle.sorting.proofs.sorting.sort.Goals as goal

pub returns-then-lacks-clause-grouped : goal.returns-then-lacks-clause-grouped
returns-then-lacks-clause-grouped g c =
    let m = g.C.Catalogue.meaning c.args.catalogue.now in
    grouped (in_force m) m.n (ends m g.C.Label.Label.ops (g.met.C.Catalogue.sound c.args.catalogue.now))

pub returns-clause-grouped : goal.returns-clause-grouped
returns-clause-grouped g c =
    let m = g.C.Catalogue.meaning c.args.catalogue.now in
    grouped (in_force m) m.n (ends m g.C.Label.Label.ops (g.met.C.Catalogue.sound c.args.catalogue.now))
