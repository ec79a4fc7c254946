use Rattle.std.proofs.Common.{◌≡◌, ◌/◌, length, sym, ap, ◌∙◌, arith}
use Rattle.std.specs.Simd.{first_chunks}
use Rattle.catalogue.specs.Refusals.{number}
use Rattle.sheets.specs.Sheets.{entry, entry_check, entry_at}
use Rattle.sheets.proofs.Checks.{items_more, items_stop}
use Rattle.sheets.proofs.Units.{entry_read}
use Rattle.catalogue.proofs.Numbers.{handed_on, numbered}
use Rattle.catalogue.proofs.reading.check_run.Goals as goal

pub loop-arc-preserved : goal.loop-arc-preserved
loop-arc-preserved g c =
    let run = c.args.run.now in
    let j = c.loop-arc.arc-index in
    let us = c.as_chunks.result.0.now in
    let chk = entry_check g.K.Label.named c.args.n in
    let item = entry_at run c.args.p 0 in
    let cut : us ≡ first_chunks 8 (length us) run = c.as_chunks.ensures.front ∙ ap (λ k. first_chunks 8 k run) (sym c.as_chunks.ensures.front_len) in
    let e : entry c.args.p c.fields-to.result.0 c.fields-to.result.1 ≡ item j = entry_read run us cut c.args.p j c.fields-to.result.0 c.fields-to.result.1 _ (omega arith) c.fields-to.ensures.first c.fields-to.ensures.second in
    c.loop-arc.invariant ∙ items_more chk item j (length run / 8) (omega arith) (ap chk (sym e) ∙ sym c.in_ok-check_arc.ensures)

pub returns-in_err-check_arc : goal.returns-in_err-check_arc
returns-in_err-check_arc g c =
    let run = c.args.run.now in
    let j = c.loop-arc.arc-index in
    let us = c.as_chunks.result.0.now in
    let chk = entry_check g.K.Label.named c.args.n in
    let item = entry_at run c.args.p 0 in
    let cut : us ≡ first_chunks 8 (length us) run = c.as_chunks.ensures.front ∙ ap (λ k. first_chunks 8 k run) (sym c.as_chunks.ensures.front_len) in
    let e : entry c.args.p c.fields-to.result.0 c.fields-to.result.1 ≡ item j = entry_read run us cut c.args.p j c.fields-to.result.0 c.fields-to.result.1 _ (omega arith) c.fields-to.ensures.first c.fields-to.ensures.second in
    let why = c.in_err-check_arc.field-0.0 in
    handed_on c.from_residual.result why c.from_residual.ensures.1
    ∙ sym (c.loop-arc.invariant ∙ items_stop chk item j (length run / 8) (omega arith) (number why) (ap chk (sym e) ∙ sym c.in_err-check_arc.ensures) (numbered why))
