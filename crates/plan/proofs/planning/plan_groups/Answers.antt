use Rattle.std.proofs.Common.{length, arith}
use Rattle.std.proofs.lemmas.List.{length-take-le}
use Rattle.plan.proofs.Naming.{named_by}
use Rattle.plan.proofs.planning.plan_groups.Goals as goal

pub build-requires-clause-named : goal.build-requires-clause-named
build-requires-clause-named c =
    named_by c.args.records.now c.name_ranks.new.names _ (length c.mark.new.live) c.name_ranks.ensures (length-take-le (length c.args.records.now) _ (omega arith)) (omega arith)
    (λ k h. c.requires.used k (omega arith)) c.requires.apart c.requires.inside

pub build-requires-clause-back : goal.build-requires-clause-back
build-requires-clause-back c = λ r t e h. c.mark.ensures.back r t (omega (arith, c.requires.falling.tails r t e)) e h
