use Rattle.std.proofs.Common.{sym, ap, ◌∷◌, [], ◌++◌, ◌∙◌, length, arith}
use Rattle.std.proofs.lemmas.Bool.{eqb-true}
use Rattle.std.proofs.lemmas.List.{take_all, take-append-le}
use Rattle.console.proofs.buffer.LineBuffer.push.Goals as goal

pub returns-then-not-is_full : goal.returns-then-not-is_full
returns-then-not-is_full c =
    let xs = c.args.self.now.bytes.items in
    c.put.ensures ∙ sym (take_all 65 (xs ++ (c.args.byte ∷ [])) (omega (arith, ap length c.put.ensures)))

pub returns-else-not-is_full : goal.returns-else-not-is_full
returns-else-not-is_full c =
    let xs = c.args.self.now.bytes.items in
    let full = eqb-true (length xs) 65 (sym c.if-not-is_full.ensures.value) in
    sym (take-append-le 65 xs (c.args.byte ∷ []) (omega arith) ∙ take_all 65 xs (omega arith))
