use Rattle.std.proofs.Common.{◌≡◌, ℕ, ◌<◌, get_or}
use Rattle.graphs.specs.Records.{of}
use Rattle.plan.proofs.condensed.name_ranks.Given as goal

abbrev pub invariant-loop-record : goal.invariant-loop-record
invariant-loop-record l = (p : ℕ) → p < l.record-index → get_or l.names (of l.records p).rank 0 ≡ (of l.records p).group
