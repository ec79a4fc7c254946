use Rattle.std.proofs.Common.{◌≡◌, ℕ, ◌<◌}
use Rattle.graphs.specs.Records.{of}
use Rattle.closing.proofs.order.no_loop.Given as goal

abbrev pub invariant-loop-p : goal.invariant-loop-p
invariant-loop-p l = (q : ℕ) → q < l.p → (of l.records q).group ≡ q
