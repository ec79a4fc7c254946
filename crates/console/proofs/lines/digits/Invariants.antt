use Rattle.std.proofs.Common.{◌≡◌, drop}
use Rattle.console.specs.Grammar.{digits_of}
use Rattle.console.proofs.lines.digits.Given as goal

abbrev pub invariant-loop-byte : goal.invariant-loop-byte
invariant-loop-byte l = digits_of l.sum (drop l.byte-index l.bytes) ≡ digits_of 0 l.bytes
