use Rattle.std.proofs.Common.{refl, arith}
use Rattle.catalogue.specs.Refusals.{answer}
use Rattle.graphs.proofs.OrderAnswers.{loop_answer, none_back, ends_come_first}
use Rattle.closing.proofs.order.sort_straight.Goals as goal

pub returns-clause-answers : goal.returns-clause-answers
returns-clause-answers g c =
    loop_answer g.C.Label.Label.ops (g.C.Catalogue.meaning c.args.catalogue.now) (g.met.C.Catalogue.sound c.args.catalogue.now)
    c.args.records.now c.sort_in_order.new.records (c.in_ok-sort_in_order.ensures.sorted refl) (omega (arith, c.requires.records)) c.n.result c.n.ensures (answer c.no_loop.result) c.no_loop.ensures

pub returns-clause-first : goal.returns-clause-first
returns-clause-first g c =
    ends_come_first g.C.Label.Label.ops (g.C.Catalogue.meaning c.args.catalogue.now) (g.met.C.Catalogue.sound c.args.catalogue.now)
    c.args.records.now c.sort_in_order.new.records (c.in_ok-sort_in_order.ensures.sorted refl) (omega (arith, c.requires.records)) c.n.result c.n.ensures (answer c.no_loop.result) c.no_loop.ensures
    c.sort_in_order.new.order (c.in_ok-sort_in_order.ensures.rising refl) (c.in_ok-sort_in_order.ensures.listed refl)

pub returns-clause-straight : goal.returns-clause-straight
returns-clause-straight g c =
    none_back g.C.Label.Label.ops (g.C.Catalogue.meaning c.args.catalogue.now) (g.met.C.Catalogue.sound c.args.catalogue.now)
    c.args.records.now c.sort_in_order.new.records (c.in_ok-sort_in_order.ensures.sorted refl) (omega (arith, c.requires.records)) c.n.result c.n.ensures (answer c.no_loop.result) c.no_loop.ensures
