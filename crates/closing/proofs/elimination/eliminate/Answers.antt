use Rattle.std.proofs.Common.{refl, arith}
use Rattle.paths.specs.Tables.{cell}
use Rattle.tables.proofs.Stages.{eliminated_more}
use Rattle.closing.proofs.elimination.eliminate.Goals as goal

pub loop-k-preserved : goal.loop-k-preserved
loop-k-preserved g c =
    let o = g.K.Label.ops in
    let n = c.args.side.n in
    eliminated_more o n (cell o n c.args.cells.now) c.loop-k.cells c.pass_through.new.cells c.loop-k.k (omega arith) (c.loop-k.invariant c.loop-k.k refl) c.pass_through.ensures
