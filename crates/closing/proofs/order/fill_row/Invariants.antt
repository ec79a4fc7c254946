use Rattle.std.specs.List.{between}
use Rattle.graphs.proofs.Ordered.{Entered}
use Rattle.closing.proofs.order.fill_row.Given as goal

abbrev pub invariant-loop-k : goal.invariant-loop-k
invariant-loop-k g l = Entered g.C.Label.Label.ops (g.C.Catalogue.meaning l.catalogue) l.p l.fn.cells l.cells (between l.first l.k l.entries)
