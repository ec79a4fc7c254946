use Rattle.std.proofs.Common.{◌++◌, ◌∙◌, ap}
use Rattle.tables.proofs.Stages.{stage}
use Rattle.closing.proofs.elimination.pass_through.Goals as goal

pub returns : goal.returns
returns g c =
    let met = g.met.K.Label in
    let outer = c.split_at_mut-before in
    let inner = c.split_at_mut-via in
    stage g.K.Label.ops met.laws met.absorbs c.args.side.n c.args.k c.args.cells.now outer.result.0.now inner.result.0.now inner.result.1.now
    c.relax_rows.new.rows c.relax_rows-2.new.rows c.requires.over c.requires.square
    (outer.ensures.value ∙ ap (λ l. outer.result.0.now ++ l) inner.ensures.value)
    outer.ensures.front_len inner.ensures.front_len c.relax_rows.auto.rows c.relax_rows.ensures c.relax_rows-2.ensures
