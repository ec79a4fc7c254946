use Rattle.std.proofs.Common.{ℕ, length, arith, length-set, below_more}
use Rattle.graphs.specs.Searches.{Marked}
use Rattle.graphs.proofs.Parts.{row_edge, all_edges}
use Rattle.graphs.proofs.White.{white_mark}
use Rattle.graphs.proofs.Grow.{mark_stays, grown_then, visited}
use Rattle.sorting.proofs.search.+visit_walk.Goals as goal
use Rattle.sorting.proofs.search.+visit_walk.Goals.{walk-then-marks-target-eq0, walk-else-marks-target-eq0}

pub visit-walk-left-requires : goal.visit-walk-left-requires
visit-walk-left-requires t c =
    let w = white_mark c.args.marks.now c.args.p c.requires.inside c.requires.unseen in
    (omega arith, (rw length-set c.requires.rows, (omega arith, (rw length-set c.requires.inside, λ k q h e. mark_stays c.args.marks.now c.args.p c.requires.unseen q (c.requires.closed k q h e)))))

pub visit-leave-requires : goal.visit-leave-requires
visit-leave-requires t c =
    let w = white_mark c.args.marks.now c.args.p c.requires.inside c.requires.unseen in
    let tally = c.walk-left.ensures.grown.tally in
    record { room = omega arith; small = omega (arith, c.requires.rows.small) }

pub visit-returns : goal.visit-returns
visit-returns t c =
    let w = white_mark c.args.marks.now c.args.p c.requires.inside c.requires.unseen in
    let g = c.walk-left.ensures in
    let tally = g.grown.tally in
    let v = visited c.requires.inside c.requires.unseen (omega arith) c.requires.closed g.grown g.closed g.walked in
    rw (c.leave.ensures.order, c.leave.ensures.count) (record { grown = v.0; closed = v.1; seen = v.2; spread = v.3 })

pub walk-loop-target-preserved : goal.walk-loop-target-preserved
walk-loop-target-preserved t c =
    let k : ℕ = c.loop-target.target-index in
    let inv = c.loop-target.invariant in
    elim c.if-marks-target-eq0.branch [
      | walk-then-marks-target-eq0 w ↦
          let v = w.visit-left.ensures in
          simp (w.marks-is, w.order-is, w.left-is) (
          record {
            grown = grown_then inv.grown (row_edge c.args.starts.now c.args.targets.now (length c.args.marks.now) c.args.p c.requires.rows c.requires.inside k c.loop-target-test.true) w.if-marks-target-eq0.true v.grown;
            closed = v.closed;
            walked = below_more _ k (λ j h. v.grown.stays _ (inv.walked j h)) v.seen;
          }
          )
      | walk-else-marks-target-eq0 w ↦
          simp (w.marks-is, w.order-is, w.left-is) (
          record {
            grown = inv.grown;
            closed = inv.closed;
            walked = below_more _ k inv.walked (omega (arith, w.if-marks-target-eq0.false));
          }
          )
    ]

pub walk-returns-clause-walked : goal.walk-returns-clause-walked
walk-returns-clause-walked t c =
    all_edges c.args.starts.now c.args.targets.now (length c.args.marks.now) c.args.p c.requires.rows c.requires.inside
    (λ q. Marked c.loop-target.marks q) (λ j h. c.loop-target.invariant.walked j (omega (arith, h)))
