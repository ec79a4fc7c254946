-- The meaning with the two ends of every arc exchanged.
use Rattle.std.specs.Prelude.{map}
use Rattle.paths.specs.Arcs.{turn}
use Rattle.catalogue.specs.Meanings.{Meaning}

abbrev pub turned : {L : Type 0} → Meaning L → Meaning L
turned m = record { n = m.n; stock = map turn m.stock; places = m.places; sealed = m.sealed; held = m.held; holds = m.holds }
