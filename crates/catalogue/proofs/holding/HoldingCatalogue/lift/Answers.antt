use Rattle.std.proofs.Common.{sym, ap, ◌∙◌, subst}
use Rattle.catalogue.specs.Holds.{packages, OwnOk, held_over}
use Rattle.catalogue.proofs.Listed.{without_none}
use Rattle.catalogue.proofs.Held.{out_ok, lift_taken, lift_out, let_ok, lift_same, lift_passed}
use Rattle.catalogue.proofs.holding.HoldingCatalogue.lift.Goals as goal

pub invariant_of-self : goal.invariant_of-self
invariant_of-self g c =
    let s = c.args.self.now in
    let m = g.C.Catalogue.meaning s.below in
    let there = sym c.remove.ensures.found ∙ c.if-remove.true in
    record { list = subst (OwnOk m.held m.n) (sym c.remove.ensures.rest) (out_ok m (packages s.own) c.args.p s.list there) }

pub invariant_of-self-2 : goal.invariant_of-self-2
invariant_of-self-2 g c =
    let s = c.args.self.now in
    let m = g.C.Catalogue.meaning s.below in
    let xs = packages s.own in
    let p = c.args.p in
    let out = sym c.remove.ensures.found ∙ c.if-remove.false in
    let e = c.remove.ensures.rest ∙ without_none p xs out in
    let after = g.C.Catalogue.meaning c.lift.new.self in
    record { list = subst (OwnOk after.held after.n) (sym e) (subst (λ k. OwnOk k.held k.n xs) (sym c.lift.ensures.leaves) (let_ok m xs p s.list out)) }

pub returns-then-remove : goal.returns-then-remove
returns-then-remove g c =
    let s = c.args.self.now in
    let m = g.C.Catalogue.meaning s.below in
    let xs = packages s.own in
    let p = c.args.p in
    let there = sym c.remove.ensures.found ∙ c.if-remove.true in
    let e = c.remove.ensures.rest in
    record {
      answers = sym (lift_taken m xs p s.list there);
      leaves = ap (λ ys. held_over ys m) e ∙ lift_out m xs p s.list there s.own.few;
    }

pub returns : goal.returns
returns g c =
    let s = c.args.self.now in
    let m = g.C.Catalogue.meaning s.below in
    let xs = packages s.own in
    let p = c.args.p in
    let out = sym c.remove.ensures.found ∙ c.if-remove.false in
    let e = c.remove.ensures.rest ∙ without_none p xs out in
    let d = c.lift.ensures in
    let after = g.C.Catalogue.meaning c.lift.new.self in
    record {
      answers = d.answers ∙ lift_same m xs p s.list out;
      leaves = ap (λ ys. held_over ys after) e ∙ ap (held_over xs) d.leaves ∙ lift_passed m xs p s.list out;
    }
