use Rattle.std.proofs.Common.{sym}
use Rattle.catalogue.proofs.Taken.{shrunk_ok, same_ok, refused, unchanged}
use Rattle.catalogue.proofs.ledger.LedgerCatalogue.withdraw.Goals as goal

pub invariant_of-self : goal.invariant_of-self
invariant_of-self g c =
    let o = g.K.Label.ops in
    let s = c.args.self.now in
    let d = c.drop_between-taken in
    let e = d.ensures in
    let f = c.args.from in
    let t = c.args.to in
    let from_in = sym c.if-outside.ensures in
    let to_in = sym c.if-outside-2.ensures in
    record { ok = same_ok f t s.arcs.now d.new.arcs o s.n s.len d.result s.ok from_in to_in e.few e.front e.count d.auto.arcs c.if-taken-eq0.true }

pub invariant_of-self-2 : goal.invariant_of-self-2
invariant_of-self-2 g c =
    let o = g.K.Label.ops in
    let s = c.args.self.now in
    let d = c.drop_between-taken in
    let e = d.ensures in
    let f = c.args.from in
    let t = c.args.to in
    let from_in = sym c.if-outside.ensures in
    let to_in = sym c.if-outside-2.ensures in
    record { ok = shrunk_ok f t s.arcs.now d.new.arcs o s.n s.len d.result s.ok from_in to_in e.few e.front e.count d.auto.arcs }

pub returns-then-taken-eq0 : goal.returns-then-taken-eq0
returns-then-taken-eq0 g c =
    let o = g.K.Label.ops in
    let s = c.args.self.now in
    let d = c.drop_between-taken in
    let e = d.ensures in
    let f = c.args.from in
    let t = c.args.to in
    let from_in = sym c.if-outside.ensures in
    let to_in = sym c.if-outside-2.ensures in
    let none = c.if-taken-eq0.true in
    record {
      answers = sym (refused f t s.arcs.now d.new.arcs o s.n s.len d.result s.ok from_in to_in e.few e.front e.count d.auto.arcs none);
      leaves = unchanged f t s.arcs.now d.new.arcs o s.n s.len d.result s.ok from_in to_in e.few e.front e.count d.auto.arcs none;
    }
