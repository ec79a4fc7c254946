use Rattle.std.proofs.Common.{◌≡◌, ◌-◌, ◌≤◌, map, length}
use Rattle.std.specs.List.{range_with_len}
use Rattle.sheets.specs.Sheets.{due, first_unmet, pair_check, pair_checks}
use Rattle.catalogue.proofs.reading.Reading.check_pairs.Given as goal

abbrev pub invariant-loop-pair : goal.invariant-loop-pair
invariant-loop-pair l =
    (l.at ≡ due l.self.bytes.now l.pair-index)
    × (l.at ≤ length l.self.bytes.now)
    × (first_unmet (pair_checks l.self.bytes.now) ≡ first_unmet (map (pair_check l.self.bytes.now) (range_with_len l.pair-index (l.self.n - l.pair-index))))
