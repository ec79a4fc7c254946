use Rattle.std.proofs.Common.{◌+◌, ◌<◌, length, map, [], sym, ap, ◌∙◌, drop, arith}
use Rattle.std.proofs.Math.ListN.{get_or-map}
use Rattle.std.proofs.lemmas.List.{drop-set-lt, drop-drop, length-map}
use Rattle.console.specs.Sessions.{room, obeyed, after}
use Rattle.console.proofs.Reckoned.{same_room, after_more, told_more, told_all}
use Rattle.console.proofs.program.follow.Goals as goal

pub loop-k-preserved : goal.loop-k-preserved
loop-k-preserved g c =
    let first = g.C.Catalogue.meaning c.args.catalogue.now in
    let lines = map (λ x. x.now) c.args.lines.now in
    let l = c.loop-k in
    let k = l.k in
    let t = room c.args.table.now c.args.records.now c.args.words.now c.args.sets.now in
    let inside : k < length lines = omega (arith, length-map c.args.lines.now (λ x. x.now)) in
    let line = sym (get_or-map (λ x. x.now) c.args.lines.now k record { ref_ptr = (0, 0); now = [] }) in
    let long = l.auto in
    let same = same_room l.table c.args.table.now l.records c.args.records.now l.words c.args.words.now l.sets c.args.sets.now long.table long.records long.words long.sets in
    record {
      left = c.obey.ensures.leaves ∙ (λ i. after (l.invariant.left i) (line i)) ∙ sym (after_more first lines k inside);
      told = told_more first t lines k l.told c.obey.result inside (omega arith) l.invariant.told
          (c.obey.ensures.answers ∙ (λ i. obeyed (l.invariant.left i) (same i) (line i)));
      rest = drop-set-lt (k + 1) l.told k c.obey.result (omega arith) ∙ sym (drop-drop 1 k l.told) ∙ ap (drop 1) l.invariant.rest ∙ drop-drop 1 k c.args.told.now;
    }

pub returns-clause-told : goal.returns-clause-told
returns-clause-told g c =
    let first = g.C.Catalogue.meaning c.args.catalogue.now in
    let lines = map (λ x. x.now) c.args.lines.now in
    let l = c.loop-k in
    let many = length-map c.args.lines.now (λ x. x.now) in
    told_all first (room c.args.table.now c.args.records.now c.args.words.now c.args.sets.now) lines l.k l.told c.args.told.now
    (omega arith) (omega arith) l.invariant.told l.invariant.rest
