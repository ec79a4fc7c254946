use Rattle.std.proofs.Common.{ℕ, ◌<◌, ◌∙◌, length, arith, below_more}
use Rattle.graphs.specs.Searches.{Edge, Marked}
use Rattle.graphs.proofs.White.{white_zeros}
use Rattle.graphs.proofs.Whole.{whole_none, whole_more, whole_all}
use Rattle.sorting.proofs.search.finish.Goals as goal
use Rattle.sorting.proofs.search.finish.Goals.{then-marks-p-eq0, else-marks-p-eq0}

pub loop-p-init : goal.loop-p-init
loop-p-init c = record {
  whole = whole_none (Edge c.args.starts.now c.args.targets.now) c.args.marks.now c.args.order.now (white_zeros c.args.marks.now c.requires.zeros) c.requires.zeros;
  taken = λ v h. absurd (omega (arith, h));
}

pub loop-p-preserved : goal.loop-p-preserved
loop-p-preserved c =
    let inv = c.loop-p.invariant in
    elim c.if-marks-p-eq0.branch [
      | then-marks-p-eq0 w ↦
          let v = w.visit-count.ensures in
          simp (w.marks-is, w.order-is, w.count-is) (
          record {
            whole = whole_more w.visit-count.auto.marks inv.whole v.grown v.closed;
            taken = below_more _ c.loop-p.p (λ k h. v.grown.stays k (inv.taken k h)) v.seen;
          }
          )
      | else-marks-p-eq0 w ↦
          simp (w.marks-is, w.order-is, w.count-is) (
          record {
            whole = inv.whole;
            taken = below_more _ c.loop-p.p inv.taken (omega (arith, w.if-marks-p-eq0.false));
          }
          )
    ]

pub returns : goal.returns
returns c =
    let all : (v : ℕ) → v < length c.loop-p.marks → Marked c.loop-p.marks v = λ v h. c.loop-p.invariant.taken v (omega (arith, h)) in
    record {
      whole = rw (whole_all all c.loop-p.invariant.whole ∙ c.loop-p.auto.marks) at c.loop-p.invariant.whole;
      all = λ v h. all v (omega (arith, h));
    }
