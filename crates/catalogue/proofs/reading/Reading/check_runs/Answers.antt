use Rattle.std.proofs.Common.{◌+◌, ◌≤◌, map, length, sym, ap, ◌∙◌, rules, arith}
use Rattle.catalogue.specs.Refusals.{number}
use Rattle.sheets.specs.Sheets.{entry_check, run, offset_of, size_of, first_unmet}
use Rattle.sheets.proofs.Checks.{lists_more, lists_stop}
use Rattle.sheets.proofs.Pairs.{pairs_ok}
use Rattle.sheets.proofs.Units.{run_read}
use Rattle.catalogue.proofs.Numbers.{handed_on, numbered}
use Rattle.catalogue.proofs.PairWords.{pair_read}
use Rattle.catalogue.proofs.reading.Reading.check_runs.Goals as goal

pub slice_bounds-run-end : goal.slice_bounds-run-end
slice_bounds-run-end g c =
    let bytes = c.args.self.now.bytes.now in
    let p = c.loop-p.p in
    let inside : offset_of bytes p + size_of bytes p ≤ length bytes = (pairs_ok bytes c.requires p (omega arith)).inside in
    let read = pair_read bytes _ c.pairs-pair-items.ensures.fields p _ (omega (arith, c.pairs-pair-items.ensures.len)) _ _ c.fields-offset.ensures.first c.fields-offset.ensures.second in
    let o = read.0 in
    let s = read.1 in
    search rules

pub loop-p-preserved : goal.loop-p-preserved
loop-p-preserved g c =
    let bytes = c.args.self.now.bytes.now in
    let p = c.loop-p.p in
    let chk = entry_check g.K.Label.named c.args.self.now.n in
    let inside = (pairs_ok bytes c.requires p (omega arith)).inside in
    let read = pair_read bytes _ c.pairs-pair-items.ensures.fields p _ (omega (arith, c.pairs-pair-items.ensures.len)) _ _ c.fields-offset.ensures.first c.fields-offset.ensures.second in
    let o = read.0 in
    let s = read.1 in
    let e = run_read bytes p c.fields-offset.result.0 c.fields-offset.result.1 o s (omega arith) in
    c.loop-p.invariant ∙ lists_more chk (run bytes) p c.args.self.now.n (omega arith) (ap (λ xs. first_unmet (map chk xs)) (sym e) ∙ sym c.in_ok-check_run.ensures)

pub returns-in_err-check_run : goal.returns-in_err-check_run
returns-in_err-check_run g c =
    let bytes = c.args.self.now.bytes.now in
    let p = c.loop-p.p in
    let chk = entry_check g.K.Label.named c.args.self.now.n in
    let inside = (pairs_ok bytes c.requires p (omega arith)).inside in
    let read = pair_read bytes _ c.pairs-pair-items.ensures.fields p _ (omega (arith, c.pairs-pair-items.ensures.len)) _ _ c.fields-offset.ensures.first c.fields-offset.ensures.second in
    let o = read.0 in
    let s = read.1 in
    let e = run_read bytes p c.fields-offset.result.0 c.fields-offset.result.1 o s (omega arith) in
    let why = c.in_err-check_run.field-0.0 in
    handed_on c.from_residual.result why c.from_residual.ensures.1
    ∙ sym (c.loop-p.invariant ∙ lists_stop chk (run bytes) p c.args.self.now.n (omega arith) (number why) (ap (λ xs. first_unmet (map chk xs)) (sym e) ∙ sym c.in_err-check_run.ensures) (numbered why))
