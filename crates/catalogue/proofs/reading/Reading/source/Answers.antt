use Rattle.std.proofs.Common.{◌≡◌, ℕ, ◌+◌, ◌-◌, ◌<◌, ◌≤◌, List, leb, length, get_or, rules, ap, subst, ◌∙◌, ⊎_elim, arith}
use Rattle.std.proofs.lemmas.Bool.{cases_lt}
use Rattle.std.proofs.lemmas.List.Sorted.{IsPartitionPoint-from_clause}
use Rattle.sheets.specs.Sheets.{word_at, count_of, offset_of}
use Rattle.sheets.proofs.Begun.{parted, begun_before, begun_after}
use Rattle.catalogue.proofs.reading.Reading.source.Goals as goal

pub returns : goal.returns
returns c =
    let bytes = c.args.self.now.bytes.now in
    let pairs = c.later_pairs.result.now in
    let at = c.args.at in
    let i = c.partition_point-begun.result in
    let n : c.args.self.now.n ≡ count_of bytes = c.args.self.now.count in
    let some = c.args.self.now.some in
    let len = c.later_pairs.ensures.len in
    let all : 1 + length pairs ≡ count_of bytes = omega arith in
    let offsets : (p : ℕ) (d : List ℕ) → 1 + p < count_of bytes → word_at (get_or pairs p d) 0 ≡ offset_of bytes (1 + p) = λ p d h. c.later_pairs.ensures.fields.first p d (omega arith) ∙ ap (word_at bytes) (omega arith) in
    let point = IsPartitionPoint-from_clause (λ u. leb (word_at u 0) at) pairs i c.partition_point-begun.ensures.partitioned (parted bytes 1 pairs at all offsets c.requires.met) (λ a r q k. search rules) in
    let most : i ≤ length pairs = c.partition_point-begun.ensures.bound in
    record {
      inside = omega arith;
      begun = ⊎_elim (λ none. let first : 0 ≡ i = omega arith in subst (λ p. offset_of bytes p ≤ at) first c.requires.begun) (λ more. begun_before bytes 1 pairs at all offsets i point (i - 1) i (omega arith) (omega arith) (omega arith)) (cases_lt i 1);
      last = λ h. begun_after bytes 1 pairs at all offsets i point i (i + 1) (omega arith) (omega arith) (omega arith);
    }
