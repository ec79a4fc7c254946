use Rattle.std.proofs.Common.{◌≡◌, ℕ, ◌+◌, ◌-◌, ◌*◌, ◌≤◌, length, get_or, sym, refl, ◌∙◌, ap, ap₂, arith}
use Rattle.std.proofs.lemmas.List.{get_or_read}
use Rattle.paths.specs.Tables.{cell}
use borrow.Rule.Slice.PartMut.{put_mid}
use Rattle.tables.proofs.Areas.{row_whole}
use Rattle.tables.proofs.RowWrites.{row_relaxed}
use Rattle.tables.proofs.Stages.{row_left, row_more}
use Rattle.closing.proofs.elimination.relax_rows.Goals as goal
use Rattle.closing.proofs.elimination.relax_rows.Goals.{then-leads, else-leads}

pub loop-i-preserved : goal.loop-i-preserved
loop-i-preserved g c =
    let o = g.K.Label.ops in
    let met = g.met.K.Label in
    let via = c.args.via.now in
    let n = length via in
    let ways = λ (j : ℕ). get_or via j o.none in
    let was = c.loop-i.rows in
    let i = c.loop-i.i in
    let first = c.index-rows-i.result in
    let whole : i * n + n ≤ length was = omega (arith, row_whole (length c.args.rows.now) n i c.loop-i-test.true) in
    let wide : (i * n + n) - i * n ≡ n = omega arith in
    row_more o n c.args.k i ways (cell o n c.args.rows.now) was c.if-leads.rows first c.requires.over c.loop-i.invariant
    (get_or_read was (i * n + c.args.k) first (omega arith) c.index-rows-i.is o.none)
    (elim c.if-leads.branch [
      | then-leads w ↦ λ p j hj. ap (λ l. cell o n l p j) w.rows-is ∙ ap₂ (λ m l. cell o n (put_mid (i * n) m was l) p j) wide w.relax_row.ensures ∙ row_relaxed o n first was via i whole refl p j hj
      | else-leads w ↦ λ p j hj. ap (λ l. cell o n l p j) w.rows-is ∙ row_left o met.laws met.exact n i ways first was (sym c.leads.ensures ∙ w.if-leads.false) p j hj
    ])
