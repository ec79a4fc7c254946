use Rattle.std.proofs.Common.{◌≡◌, ℕ, ◌<◌, ◌≤◌}
use Rattle.graphs.specs.Records.{of}
use Rattle.plan.specs.Waves.{with_wave, wave_at}
use Rattle.plan.proofs.waves.fill_waves.Given as goal

abbrev pub invariant-loop-record : goal.invariant-loop-record
invariant-loop-record l = record {
  done : (p : ℕ) → p < l.record-index → of l.records p ≡ with_wave (of l.initial.records p) (wave_at l.live l.waves (of l.initial.records p).rank);
  left : (p : ℕ) → l.record-index ≤ p → of l.records p ≡ of l.initial.records p;
}
