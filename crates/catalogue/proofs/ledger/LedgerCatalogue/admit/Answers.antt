use Rattle.std.proofs.Common.{set, sym, subst}
use Rattle.paths.specs.Arcs.{arc}
use Rattle.catalogue.specs.Ledgers.{LedgerOk}
use Rattle.catalogue.proofs.Entries.{entry_ok}
use Rattle.catalogue.proofs.ledger.LedgerCatalogue.admit.Goals as goal

pub invariant_of-self : goal.invariant_of-self
invariant_of-self g c =
    let o = g.K.Label.ops in
    let s = c.args.self.now in
    let told = c.in_ok-check_admit.ensures s.len s.arcs.now (sym c.places_left.ensures) in
    let e = c.append-self.ensures in
    let a = arc c.args.from c.args.to c.args.label in
    record { ok = subst (λ arcs. LedgerOk o s.n c.append-self.result arcs) (sym e.records) (subst (λ k. LedgerOk o s.n k (set s.arcs.now s.len a)) (sym e.count) (entry_ok o g.met.K.Label.exact s.n s.len s.arcs.now c.args.from c.args.to c.args.label s.ok (sym told))) }
