use Rattle.std.proofs.lemmas.List.Filters.{FiltersInPlace}
use Rattle.paths.specs.Arcs.{elsewhere}
use Rattle.catalogue.proofs.ledger.drop_between.Given as goal

abbrev pub invariant-loop-i : goal.invariant-loop-i
invariant-loop-i g l = FiltersInPlace (elsewhere l.from l.to) l.initial.arcs l.arcs l.next l.i
