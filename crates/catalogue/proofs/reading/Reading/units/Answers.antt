use Rattle.std.proofs.Common.{◌≡◌, ◌+◌, ◌*◌, length, drop, sym, ap₂, ◌∙◌, rules, arith}
use Rattle.std.specs.Simd.{first_chunks}
use Rattle.std.proofs.lemmas.List.{take_rest}
use Rattle.sheets.proofs.Units.{unit_word}
use Rattle.catalogue.proofs.reading.Reading.units.Goals as goal

pub returns : goal.returns
returns c =
    let bytes = c.args.self.now.bytes.now in
    let us = c.as_chunks.result.0.now in
    let cut : us ≡ first_chunks 8 (length us) (drop 4 bytes) = c.as_chunks.ensures.front ∙ ap₂ (first_chunks 8) (sym c.as_chunks.ensures.front_len) (take_rest bytes 4) in
    record {
      len = search rules;
      fields = record {
        first = λ k d h. unit_word bytes 4 us cut k 0 (4 + 8 * k) d h (omega arith) (omega arith);
        second = λ k d h. unit_word bytes 4 us cut k 4 (4 + 8 * k + 4) d h (omega arith) (omega arith);
      };
    }
