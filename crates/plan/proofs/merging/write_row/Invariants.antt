use Rattle.std.proofs.Common.{◌≡◌, take}
use Rattle.plan.proofs.merging.write_row.Given as goal

abbrev pub invariant-loop-job : goal.invariant-loop-job
invariant-loop-job l = take l.job l.bytes ≡ take l.job l.row
