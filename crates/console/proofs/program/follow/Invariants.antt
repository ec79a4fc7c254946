use Rattle.std.proofs.Common.{◌≡◌, map, take, drop}
use Rattle.catalogue.specs.Refusals.{answer}
use Rattle.console.specs.Sessions.{room}
use Rattle.console.specs.Programs.{answers_of, after_all}
use Rattle.console.proofs.program.follow.Given as goal

abbrev pub invariant-loop-k : goal.invariant-loop-k
invariant-loop-k g l =
    let first = g.C.Catalogue.meaning l.initial.catalogue in
    let lines = map (λ x. x.now) l.lines in
    let i = l.initial in
    record {
      left : g.C.Catalogue.meaning l.catalogue ≡ after_all first (take l.k lines);
      told : map (λ r. answer r) (take l.k l.told) ≡ answers_of first (room i.table i.records i.words i.sets) (take l.k lines);
      rest : drop l.k l.told ≡ drop l.k l.initial.told;
    }
