use Rattle.std.proofs.Common.{◌-◌, length, refl, ◌∙◌, subst, sym, arith, rules}
use Rattle.graphs.specs.Searches.{Edge, Graph}
use Rattle.graphs.proofs.Whole.{edge_head}
use Rattle.graphs.proofs.Grouping.{grouping_none, grouping_same, room, part_some, part_inside, fewer, grouping_more, all_classified, all_rising, all_listed}
use Rattle.sorting.proofs.sorting.group.Goals as goal

pub loop-k-init : goal.loop-k-init
loop-k-init c = record {
  long = refl;
  made = grouping_none (Edge c.args.starts.now c.args.targets.now) (length c.args.marks.now) c.args.finished.now c.args.marks.now c.args.order.now c.args.records.now refl c.requires.room c.requires.zeros;
}

pub visit-next-requires : goal.visit-next-requires
visit-next-requires c =
    let s = c.loop-k.invariant.made in
    record {
      rows = subst (λ n. Graph c.args.starts.now c.args.targets.now n) (sym s.marks) c.requires.rows;
      room = omega (arith, s.whole.tally, s.marks, s.order);
      inside = omega (arith, s.marks, c.requires.finished.inside (c.loop-k.k - 1) (omega arith));
      unseen = c.if-marks-root-eq0.true;
      closed = s.whole.closed;
    }

pub slice_bounds-packages-end : goal.slice_bounds-packages-end
slice_bounds-packages-end c =
    let r = room c.loop-k.invariant.made (c.loop-k.k - 1) (omega arith) (omega arith)
    (edge_head c.args.starts.now c.args.targets.now (length c.args.marks.now) c.requires.rows) c.requires.finished
    c.visit-next.auto.marks c.visit-next.auto.order c.visit-next.ensures.grown c.visit-next.ensures.closed
    c.if-marks-root-eq0.true c.visit-next.ensures.seen in
    search rules

pub shared-requires : goal.shared-requires
shared-requires c =
    record {
      some = part_some c.loop-k.invariant.made (c.loop-k.k - 1) (omega arith) (omega arith)
          (edge_head c.args.starts.now c.args.targets.now (length c.args.marks.now) c.requires.rows) c.requires.finished
          c.visit-next.auto.marks c.visit-next.auto.order c.visit-next.ensures.grown c.visit-next.ensures.closed
          c.if-marks-root-eq0.true c.visit-next.ensures.seen;
    }

pub enter_group-requires : goal.enter_group-requires
enter_group-requires c = record {
  inside = λ j h. omega (
    arith,
    c.requires.many,
    c.loop-k.auto.records,
    part_inside c.loop-k.invariant.made (c.loop-k.k - 1) (omega arith) (omega arith)
        (edge_head c.args.starts.now c.args.targets.now (length c.args.marks.now) c.requires.rows) c.requires.finished
        c.visit-next.auto.marks c.visit-next.auto.order c.visit-next.ensures.grown c.visit-next.ensures.closed
        c.if-marks-root-eq0.true c.visit-next.ensures.seen j h,
  );
}

pub next_rank-rank-requires : goal.next_rank-rank-requires
next_rank-rank-requires c = omega (
  arith,
  c.requires.rows.small,
  fewer c.loop-k.invariant.made (c.loop-k.k - 1) (omega arith) (omega arith)
      (edge_head c.args.starts.now c.args.targets.now (length c.args.marks.now) c.requires.rows) c.requires.finished
      c.visit-next.auto.marks c.visit-next.auto.order c.visit-next.ensures.grown c.visit-next.ensures.closed
      c.if-marks-root-eq0.true c.visit-next.ensures.seen,
)

pub loop-k-preserved-then-marks-root-eq0 : goal.loop-k-preserved-then-marks-root-eq0
loop-k-preserved-then-marks-root-eq0 c = record {
  long = c.visit-next.auto.order ∙ c.loop-k.invariant.long;
  made = grouping_more c.loop-k.invariant.made (c.loop-k.k - 1) (omega arith) (omega arith)
      (edge_head c.args.starts.now c.args.targets.now (length c.args.marks.now) c.requires.rows) c.requires.finished
      c.visit-next.auto.marks c.visit-next.auto.order c.visit-next.ensures.grown c.visit-next.ensures.closed
      c.if-marks-root-eq0.true c.visit-next.ensures.seen
      c.enter_group.new.records c.shared.result c.shared.ensures.is c.next_rank-rank.result c.next_rank-rank.ensures c.enter_group.ensures.entered c.enter_group.ensures.others c.shared.ensures.found c.shared.ensures.least;
}

pub loop-k-preserved : goal.loop-k-preserved
loop-k-preserved c = record {
  long = c.loop-k.invariant.long;
  made = grouping_same c.loop-k.invariant.made (c.loop-k.k - 1) (omega arith) (omega (arith, c.if-marks-root-eq0.false));
}

pub returns : goal.returns
returns c = record {
  sorted = all_classified c.loop-k.invariant.made (omega arith) c.requires.finished;
  beyond = c.loop-k.invariant.made.beyond;
  rising = all_rising c.loop-k.invariant.made (omega arith) c.requires.finished;
  listed = all_listed c.loop-k.invariant.made (omega arith) c.requires.finished;
}
