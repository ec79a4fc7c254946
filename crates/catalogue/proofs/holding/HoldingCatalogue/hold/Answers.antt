use Rattle.std.proofs.Common.{◌-◌, ◌<◌, cond, [], ◌∷◌, ◌++◌, length, sym, ap, ◌∙◌, subst, arith}
use Rattle.std.proofs.lemmas.Bool.{ltb-true}
use Rattle.catalogue.specs.Holds.{packages, OwnOk, held_over}
use Rattle.catalogue.proofs.Held.{may_hold, added_ok, hold_taken, hold_added}
use Rattle.catalogue.proofs.holding.HoldingCatalogue.hold.Goals as goal

pub invariant_of-self : goal.invariant_of-self
invariant_of-self g c =
    let s = c.args.self.now in
    let m = g.C.Catalogue.meaning s.below in
    let xs = packages s.own in
    let p = c.args.p in
    let may = may_hold m xs p c.in_ok-check_hold.ensures in
    record { list = subst (OwnOk m.held m.n) (sym c.add.ensures) (added_ok m xs p s.list may.inside may.out may.unheld) }

pub returns-then-has_room : goal.returns-then-has_room
returns-then-has_room g c =
    let s = c.args.self.now in
    let m = g.C.Catalogue.meaning s.below in
    let xs = packages s.own in
    let p = c.args.p in
    let may = may_hold m xs p c.in_ok-check_hold.ensures in
    let room : length xs < 32 = omega (arith, ltb-true 0 (32 - length xs) (sym c.if-has_room.ensures)) in
    let e = c.add.ensures in
    record {
      answers = sym (hold_taken m xs p s.list may.inside may.out may.unheld room);
      leaves = ap (λ ys. held_over ys m) e ∙ hold_added m xs p s.list may.inside may.out may.unheld room;
      fills = e ∙ ap (λ b. cond b (xs ++ (p ∷ [])) xs) c.if-has_room.ensures;
    }
