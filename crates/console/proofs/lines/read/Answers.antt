use Rattle.std.proofs.Common.{sym, arith}
use Rattle.console.proofs.Exact.{long_none}
use Rattle.console.proofs.lines.read.Goals as goal

pub returns-then-line-gt-LONGEST : goal.returns-then-line-gt-LONGEST
returns-then-line-gt-LONGEST c = sym (long_none c.args.line.now (omega arith))
