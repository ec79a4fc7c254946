use Rattle.std.proofs.Common.{◌≡◌, false, take}
use Rattle.runs.specs.Runs.{tables, sets_left, some_spares_used, Files, lengths}
use Rattle.runs.specs.Promises.{reckoned}
use Rattle.runs.proofs.running.run.Given as goal

abbrev pub invariant-loop-call : goal.invariant-loop-call
invariant-loop-call g l =
    let o = g.C.Label.Label.ops in
    let m = g.C.Catalogue.meaning l.initial.catalogue in
    let calls = take l.call-index l.calls in
    let t = lengths l.initial.table l.initial.changed l.initial.found l.initial.records l.initial.words l.initial.sets in
    (g.C.Catalogue.meaning l.catalogue ≡ reckoned o m calls)
    × (l.table ≡ tables o m t calls l.initial.table)
    × (some_spares_used o m t calls ≡ false → (l.changed ≡ l.initial.changed) × (l.found ≡ l.initial.found))
    × Files o m t calls l.initial.records l.records l.initial.words l.words
    × (l.sets ≡ sets_left o m t calls l.initial.sets)
