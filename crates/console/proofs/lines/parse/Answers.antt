use Rattle.std.proofs.Common.{ok_or, ap, sym, ◌∙◌}
use Rattle.catalogue.specs.Refusals.{answer}
use Rattle.console.proofs.Exact.{answered, cut_same, exactly, long_none}
use Rattle.console.proofs.lines.parse.Goals as goal

pub returns : goal.returns
returns c =
    let line = c.args.line.now in
    let value = ap answer c.ok_or.ensures.value ∙ answered c.read.result ∙ ap (λ o. ok_or o 16) c.read.ensures in
    record {
      value = value;
      exact = rw c.ok_or.ensures.value (exactly line c.read.result c.read.ensures);
      short = λ h. value ∙ ap (λ o. ok_or o 16) (long_none line h);
      cut = λ rest h. ap (λ o. ok_or o 16) (cut_same line rest h) ∙ sym value;
    }
