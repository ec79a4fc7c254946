-- Arcs by their ends.
use Rattle.std.specs.Prelude.{ℕ, Bool, not, ◌&&◌, ◌==◌}
use Rattle.paths.specs.declared.arc.Arc.{Arc}

module _ {L : Type 0} where
  abbrev pub arc : ℕ → ℕ → L → Arc L
  arc f t l = record { from = f; to = t; label = l }

  -- has the arc these ends?
  abbrev pub between : ℕ → ℕ → Arc L → Bool
  between f t a = a.from == f && a.to == t

  abbrev pub elsewhere : ℕ → ℕ → Arc L → Bool
  elsewhere f t a = not (between f t a)

  -- the arc with its two ends exchanged
  abbrev pub turn : Arc L → Arc L
  turn a = record { from = a.to; to = a.from; label = a.label }
