use Rattle.std.proofs.Common.{◌≡◌, Ok, Err, sym, ap, ◌∙◌, arith}
use Rattle.std.proofs.lemmas.Result.{err_from_is_err_and}
use Rattle.sheets.specs.Sheets.{sheet_check}
use Rattle.catalogue.specs.Refusals.{number}
use Rattle.catalogue.specs.SheetMeanings.{sheet, by_number, sheet_made}
use Rattle.catalogue.proofs.Numbers.{refused_by}
use Rattle.catalogue.proofs.SheetArcs.{arcs_many, exactly}
use Rattle.catalogue.proofs.sheet.SheetMakeRefSliceU8.make.Goals as goal

pub invariant_of-result : goal.invariant_of-result
invariant_of-result g c =
    let read = c.in_ok-reading.reading in
    let met = ap (sheet_check g.K.Label.named) c.in_ok-reading.ensures.same ∙ sym c.in_ok-reading.ensures.checks in
    let many = arcs_many g.K.Label.named g.K.Label.ops.none read.bytes.now met in
    let n = read.count in
    record { ok = record { count = n; stocked = omega arith; met = met } }

pub returns : goal.returns
returns g c =
    let named = g.K.Label.named in
    let none = g.K.Label.ops.none in
    let bytes = c.args.bytes.now in
    let told : Ok (sheet named none c.in_ok-reading.reading.bytes.now) ≡ sheet_made named none bytes =
    ap (λ b. Ok (sheet named none b)) c.in_ok-reading.ensures.same ∙ ap (λ v. by_number v (sheet named none bytes)) c.in_ok-reading.ensures.checks
    in
    record {
      answers = told;
      exact = exactly named none bytes (λ i. omega (arith, c.type_inv.bytes i)) (Ok (sheet named none c.in_ok-reading.reading.bytes.now)) told;
    }

pub returns-in_err-reading : goal.returns-in_err-reading
returns-in_err-reading g c =
    let named = g.K.Label.named in
    let none = g.K.Label.ops.none in
    let bytes = c.args.bytes.now in
    let p = err_from_is_err_and c.from_residual.result c.from_residual.ensures.1 in
    let why = c.in_err-reading.field-0.0 in
    let told = refused_by why (sheet_check named bytes) (sheet named none bytes) c.in_err-reading.ensures.checks in
    rw (p.1, p.2) (record {
      answers = told;
      exact = exactly named none bytes (λ i. omega (arith, c.type_inv.bytes i)) (Err (number why)) told;
    })
