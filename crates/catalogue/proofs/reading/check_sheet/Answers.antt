use Rattle.std.proofs.Common.{◌≡◌, ◌+◌, ◌-◌, ◌*◌, ◌/◌, ◌≤◌, true, map, length, sym, ap, ◌∙◌, ap₂, leb, arith}
use Rattle.std.proofs.lemmas.Bool.{and_parts, leb-true}
use Rattle.sheets.specs.Sheets.{count_of, due, entries, first_unmet, count_test, end_test, entry_check}
use Rattle.sheets.proofs.Stages.{too_short, bad_count, no_table, bad_pair, bad_end, by_arcs}
use Rattle.sheets.proofs.Passes.{entries_length}
use Rattle.sheets.proofs.Units.{count_read}
use Rattle.catalogue.specs.Refusals.{number}
use Rattle.catalogue.proofs.Numbers.{handed_on, numbered}
use Rattle.catalogue.proofs.reading.check_sheet.Given as given
use Rattle.catalogue.proofs.reading.check_sheet.Goals as goal
use Rattle.catalogue.proofs.reading.check_sheet.Goals.{Else-bytes-start, In_ok-end}

pub returns-in_default-clause-checks : goal.returns-in_default-clause-checks
returns-in_default-clause-checks g c = too_short g.K.Label.named c.args.bytes.now c.in_default.ensures.cases

pub returns-then-not-count_fits-clause-checks : goal.returns-then-not-count_fits-clause-checks
returns-then-not-count_fits-clause-checks g c =
    let bytes = c.args.bytes.now in
    let n : c.word-n.result ≡ count_of bytes = c.word-n.ensures ∙ count_read bytes c.in-Some.first.now c.in-Some.ensures.cases.same in
    bad_count g.K.Label.named bytes c.in-Some.ensures.cases.enough (ap count_test (sym n) ∙ sym c.count_fits.ensures ∙ c.if-not-count_fits.true)

pub returns-then-bytes-start-clause-checks : goal.returns-then-bytes-start-clause-checks
returns-then-bytes-start-clause-checks g c =
    let bytes = c.args.bytes.now in
    let n : c.word-n.result ≡ count_of bytes = c.word-n.ensures ∙ count_read bytes c.in-Some.first.now c.in-Some.ensures.cases.same in
    no_table g.K.Label.named bytes c.in-Some.ensures.cases.enough (ap count_test (sym n) ∙ sym c.count_fits.ensures ∙ c.if-not-count_fits.false) (omega arith)

-- the pairs are there
record Opened (g : given.Over) (c : Else-bytes-start g) : Type 0 where
  n : c.word-n.result ≡ count_of c.args.bytes.now
  limits : count_test (count_of c.args.bytes.now) ≡ true
  table : 4 + 8 * count_of c.args.bytes.now ≤ length c.args.bytes.now

opened : (g : given.Over) (c : Else-bytes-start g) → Opened g c
opened g c =
    let bytes = c.args.bytes.now in
    let n : c.word-n.result ≡ count_of bytes = c.word-n.ensures ∙ count_read bytes c.in-Some.first.now c.in-Some.ensures.cases.same in
    record { n = n; limits = ap count_test (sym n) ∙ sym c.count_fits.ensures ∙ c.if-not-count_fits.false; table = omega arith }

pub invariant_of-reading : goal.invariant_of-reading
invariant_of-reading g c =
    let n = count_of c.args.bytes.now in
    let o = opened g c in
    let e = o.n in
    let parts = and_parts (leb 1 n) (leb n 1024) o.limits in
    let low = leb-true 1 n parts.0 in
    let high = leb-true n 1024 parts.1 in
    record { count = e; some = omega arith; most = omega arith; long = omega arith }

pub returns-in_err-end-clause-checks : goal.returns-in_err-end-clause-checks
returns-in_err-end-clause-checks g c =
    let o = opened g (goal.at.returns-in_err-end-clause-checks g c).Else-bytes-start in
    let why = c.in_err-end.field-0.0 in
    handed_on c.from_residual.result why c.from_residual.ensures.1 ∙ bad_pair g.K.Label.named c.args.bytes.now c.in-Some.ensures.cases.enough o.limits o.table (number why) c.in_err-end.ensures.checks (numbered why)

-- the pairs are in order, and so many arcs follow
record Paired (g : given.Over) (c : In_ok-end g) : Type 0 where
  opened : Opened g (goal.at.overflow_sub-end g c).Else-bytes-start
  begins : c.pairs_end-start.result ≤ c.in_ok-end.end
  tests : end_test (due c.args.bytes.now (count_of c.args.bytes.now)) (length c.args.bytes.now) (length (entries c.args.bytes.now))
      ≡ end_test c.in_ok-end.end (length c.args.bytes.now) ((c.in_ok-end.end - c.pairs_end-start.result) / 8)

paired : (g : given.Over) (c : In_ok-end g) → Paired g c
paired g c =
    let bytes = c.args.bytes.now in
    let o = opened g (goal.at.overflow_sub-end g c).Else-bytes-start in
    let n : c.word-n.result ≡ count_of bytes = o.n in
    let e : c.in_ok-end.end ≡ due bytes (count_of bytes) = c.in_ok-end.ensures.ends ∙ ap (due bytes) n in
    let total = entries_length g.K.Label.named bytes (sym c.in_ok-end.ensures.checks) in
    let arcs : (c.in_ok-end.end - c.pairs_end-start.result) / 8 ≡ length (entries bytes) = omega arith in
    record { opened = o; begins = omega arith; tests = ap₂ (λ x a. end_test x (length bytes) a) (sym e) (sym arcs) }

pub overflow_sub-end : goal.overflow_sub-end
overflow_sub-end g c = (paired g c).begins

pub returns-then-not-ends_well-clause-checks : goal.returns-then-not-ends_well-clause-checks
returns-then-not-ends_well-clause-checks g c =
    let p = paired g (goal.at.returns-then-not-ends_well-clause-checks g c).In_ok-end in
    bad_end g.K.Label.named c.args.bytes.now c.in-Some.ensures.cases.enough p.opened.limits p.opened.table c.in_ok-end.ensures.checks (p.tests ∙ sym c.ends_well.ensures ∙ c.if-not-ends_well.true)

pub returns-in_err-check_runs-clause-checks : goal.returns-in_err-check_runs-clause-checks
returns-in_err-check_runs-clause-checks g c =
    let bytes = c.args.bytes.now in
    let named = g.K.Label.named in
    let p = paired g (goal.at.returns-in_err-check_runs-clause-checks g c).In_ok-end in
    handed_on c.from_residual-in_err-check_runs.result c.in_err-check_runs.field-0.0 c.from_residual-in_err-check_runs.ensures.1 ∙ c.in_err-check_runs.ensures ∙ ap (λ k. first_unmet (map (entry_check named k) (entries bytes))) p.opened.n
    ∙ by_arcs named bytes c.in-Some.ensures.cases.enough p.opened.limits p.opened.table c.in_ok-end.ensures.checks (p.tests ∙ sym c.ends_well.ensures ∙ c.if-not-ends_well.false)

pub returns-clause-checks : goal.returns-clause-checks
returns-clause-checks g c =
    let bytes = c.args.bytes.now in
    let named = g.K.Label.named in
    let p = paired g (goal.at.returns-clause-checks g c).In_ok-end in
    c.in_ok-check_runs.ensures ∙ ap (λ k. first_unmet (map (entry_check named k) (entries bytes))) p.opened.n
    ∙ by_arcs named bytes c.in-Some.ensures.cases.enough p.opened.limits p.opened.table c.in_ok-end.ensures.checks (p.tests ∙ sym c.ends_well.ensures ∙ c.if-not-ends_well.false)
