use Rattle.graphs.proofs.Ordered.{ClosedRows}
use Rattle.closing.proofs.order.fill_in_turn.Given as goal

abbrev pub invariant-loop-p : goal.invariant-loop-p
invariant-loop-p g l = ClosedRows g.C.Label.Label.ops (g.C.Catalogue.meaning l.catalogue) l.order l.p-index l.cells
