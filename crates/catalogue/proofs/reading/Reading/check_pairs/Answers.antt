use Rattle.std.proofs.Common.{◌≡◌, length, sym, ap, ◌∙◌, arith}
use Rattle.sheets.specs.Sheets.{due, offset_of, size_of, check, run_test}
use Rattle.sheets.proofs.Pairs.{pair_ok, pairs_more, pairs_stop, due_next}
use Rattle.catalogue.proofs.PairWords.{pair_read}
use Rattle.catalogue.proofs.reading.Reading.check_pairs.Goals as goal

pub loop-pair-preserved : goal.loop-pair-preserved
loop-pair-preserved c =
    let bytes = c.args.self.now.bytes.now in
    let p = c.loop-pair.pair-index in
    let read = pair_read bytes _ c.pairs-pair-items.ensures.fields p _ (omega (arith, c.pairs-pair-items.ensures.len)) _ _ c.fields-offset.ensures.first c.fields-offset.ensures.second in
    let o = read.0 in
    let s = read.1 in
    let test : run_test (offset_of bytes p) (size_of bytes p) (due bytes p) (length bytes) ≡ c.run_fits.result = cc in
    let ok = pair_ok bytes p (ap (check 3) (test ∙ c.if-not-run_fits.false)) in
    let inside = ok.inside in
    let placed = ok.placed in
    let next = due_next bytes p in
    (omega arith, omega arith, c.loop-pair.invariant.2 ∙ pairs_more bytes p c.args.self.now.n (omega arith) ok)

pub returns-then-not-run_fits-clause-checks : goal.returns-then-not-run_fits-clause-checks
returns-then-not-run_fits-clause-checks c =
    let bytes = c.args.self.now.bytes.now in
    let p = c.loop-pair.pair-index in
    let read = pair_read bytes _ c.pairs-pair-items.ensures.fields p _ (omega (arith, c.pairs-pair-items.ensures.len)) _ _ c.fields-offset.ensures.first c.fields-offset.ensures.second in
    let o = read.0 in
    let s = read.1 in
    let test : run_test (offset_of bytes p) (size_of bytes p) (due bytes p) (length bytes) ≡ c.run_fits.result = cc in
    sym (c.loop-pair.invariant.2 ∙ pairs_stop bytes p c.args.self.now.n (omega arith) (ap (check 3) (test ∙ c.if-not-run_fits.true)))
