use Rattle.std.proofs.Common.{◌≡◌, ◌-◌, ◌/◌, map, length}
use Rattle.std.specs.List.{range_with_len}
use Rattle.sheets.specs.Sheets.{first_unmet, entry_check, entry_at, run_at}
use Rattle.catalogue.proofs.reading.check_run.Given as goal

abbrev pub invariant-loop-arc : goal.invariant-loop-arc
invariant-loop-arc g l =
    first_unmet (map (entry_check g.K.Label.named l.n) (run_at l.run l.p 0 (length l.run / 8)))
    ≡ first_unmet (map (entry_check g.K.Label.named l.n) (map (entry_at l.run l.p 0) (range_with_len l.arc-index (length l.run / 8 - l.arc-index))))
