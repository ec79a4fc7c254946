use Rattle.std.proofs.Common.{◌≡◌, ◌+◌, ◌<◌, length, sym, ap, ap₂, ◌∙◌, arith}
use Rattle.std.proofs.lemmas.Bool.{ltb-true}
use Rattle.sheets.specs.Sheets.{word_at, count_of}
use Rattle.sheets.proofs.Pairs.{pairs_ok}
use Rattle.sheets.proofs.Passes.{all_met}
use Rattle.catalogue.specs.SheetMeanings.{labelled}
use Rattle.catalogue.proofs.SheetArcs.{arcs_many, arc_found}
use Rattle.catalogue.proofs.sheet.SheetCatalogue.arc_at.Goals as goal

pub place_of-requires : goal.place_of-requires
place_of-requires g c =
    let s = c.args.self.now in
    let inside : c.args.k < length c.arcs.result.now = ltb-true _ _ (sym c.in_ok-arc.ensures.lookup.0) in
    let many = arcs_many g.K.Label.named g.K.Label.ops.none s.reading.bytes.now s.ok.met in
    let few = (all_met g.K.Label.named s.reading.bytes.now s.ok.met).few in
    let n = s.ok.count in
    let len = c.arcs.ensures.len in
    omega arith

pub source-from-requires : goal.source-from-requires
source-from-requires g c =
    let s = c.args.self.now in
    let bytes = c.args.self.now.reading.bytes.now in
    let m = all_met g.K.Label.named bytes s.ok.met in
    let n : s.reading.n ≡ count_of bytes = s.ok.count in
    let first = (pairs_ok bytes m.pairs 0 (omega (arith, m.some))).placed in
    record { met = m.pairs; begun = omega (arith, first) }

pub returns : goal.returns
returns g c =
    let s = c.args.self.now in
    let bytes = c.args.self.now.reading.bytes.now in
    let k = c.args.k in
    let at = c.place_of.result in
    let n : s.reading.n ≡ count_of bytes = s.ok.count in
    let inside : k < length c.arcs.result.now = ltb-true _ _ (sym c.in_ok-arc.ensures.lookup.0) in
    let many = arcs_many g.K.Label.named g.K.Label.ops.none bytes s.ok.met in
    let len = c.arcs.ensures.len in
    let to : word_at c.in_ok-arc.arc.now 0 ≡ word_at bytes at = ap (λ u. word_at u 0) c.in_ok-arc.ensures.lookup.1 ∙ c.arcs.ensures.fields.first k _ inside ∙ ap (word_at bytes) (sym c.place_of.ensures) in
    let word : word_at c.in_ok-arc.arc.now 4 ≡ word_at bytes (at + 4) = ap (λ u. word_at u 4) c.in_ok-arc.ensures.lookup.1 ∙ c.arcs.ensures.fields.second k _ inside ∙ ap (λ i. word_at bytes (i + 4)) (sym c.place_of.ensures) in
    let from = c.source-from.ensures in
    c.arc_in.ensures
    ∙ ap₂ (λ t w. labelled c.source-from.result t (g.K.Label.named w)) to word
    ∙ arc_found g.K.Label.named g.K.Label.ops.none bytes s.ok.met k c.source-from.result at (omega arith) (omega arith) (omega (arith, from.inside)) from.begun (λ h. from.last (omega arith))
