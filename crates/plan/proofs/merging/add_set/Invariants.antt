use Rattle.std.proofs.Common.{◌≡◌, ℕ, ◌<◌, ◌≤◌, get_or}
use Rattle.plans.specs.Steps.{joined}
use Rattle.plan.proofs.merging.add_set.Given as goal

abbrev pub invariant-loop-job : goal.invariant-loop-job
invariant-loop-job l = record {
  done : (c : ℕ) → c < l.job → get_or l.row c 0 ≡ joined (get_or l.initial.row c 0) (get_or l.set c 0);
  rest : (c : ℕ) → l.job ≤ c → get_or l.row c 0 ≡ get_or l.initial.row c 0;
}
