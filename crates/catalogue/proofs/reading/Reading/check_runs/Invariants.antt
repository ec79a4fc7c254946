use Rattle.std.proofs.Common.{◌≡◌, ◌-◌, map}
use Rattle.std.specs.List.{range_with_len, flat_map}
use Rattle.sheets.specs.Sheets.{first_unmet, entry_check, run, entries}
use Rattle.catalogue.proofs.reading.Reading.check_runs.Given as goal

abbrev pub invariant-loop-p : goal.invariant-loop-p
invariant-loop-p g l =
    first_unmet (map (entry_check g.K.Label.named l.self.n) (entries l.self.bytes.now))
    ≡ first_unmet (map (entry_check g.K.Label.named l.self.n) (flat_map (run l.self.bytes.now) (range_with_len l.p (l.self.n - l.p))))
