use Rattle.std.proofs.Common.{◌≡◌, true, false, sym, ◌∙◌, arith}
use Rattle.std.proofs.lemmas.List.Filters.{FiltersInPlace-more_no, FiltersInPlace-more_set}
use Rattle.paths.specs.Arcs.{elsewhere}
use Rattle.catalogue.proofs.Taken.{moved_front, moved_count}
use Rattle.catalogue.proofs.ledger.drop_between.Goals as goal
use Rattle.catalogue.proofs.ledger.drop_between.Goals.{then-lies_elsewhere, else-lies_elsewhere}

pub loop-i-preserved : goal.loop-i-preserved
loop-i-preserved g c =
    elim c.if-lies_elsewhere.branch [
      | then-lies_elsewhere w ↦
          let e : elsewhere c.args.from c.args.to c.index-arcs-i.result ≡ true = sym c.lies_elsewhere.ensures ∙ w.if-lies_elsewhere.true in
          rw (w.arcs-is, w.next-is) (FiltersInPlace-more_set c.loop-i.invariant (omega arith) e c.index-arcs-i.is)
      | else-lies_elsewhere w ↦
          let e : elsewhere c.args.from c.args.to c.index-arcs-i.result ≡ false = sym c.lies_elsewhere.ensures ∙ w.if-lies_elsewhere.false in
          rw (w.arcs-is, w.next-is) (FiltersInPlace-more_no c.loop-i.invariant (omega arith) e c.index-arcs-i.is)
    ]

pub returns : goal.returns
returns g c =
    let end : c.loop-i.i ≡ c.args.len = omega arith in
    record {
      few = omega arith;
      front = moved_front c.args.from c.args.to c.args.arcs.now c.loop-i.arcs c.loop-i.next c.loop-i.i c.args.len c.loop-i.invariant end;
      count = moved_count c.args.from c.args.to c.args.arcs.now c.loop-i.arcs c.loop-i.next c.loop-i.i c.args.len c.loop-i.invariant end;
    }
