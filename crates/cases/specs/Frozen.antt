-- The meaning, sealed.
use Rattle.std.specs.Prelude.{true}
use Rattle.labels.specs.Algebra.{Ops}
use Rattle.catalogue.specs.Meanings.{Meaning, Sound}

abbrev pub sealed_over : {L : Type 0} → Meaning L → Meaning L
sealed_over m = record { n = m.n; stock = m.stock; places = m.places; sealed = true; held = m.held; holds = m.holds }

pub sealed_sound : {L : Type 0} (o : Ops L) (m : Meaning L) → Sound o m → Sound o (sealed_over m)
sealed_sound o m s = record { some = s.some; most = s.most; arcs = s.arcs; room = s.room; inside = s.inside }
