-- What a reference means as a catalogue, what its calls do not change, and the bounds that they keep.
use Rattle.std.specs.Prelude.{◌≡◌, ◌-◌, ◌≤◌, true, length}
use Rattle.catalogue.specs.Meanings.{Meaning}
use Rattle.catalogue.specs.Lists.{within}
use Rattle.cases.specs.declared.reference.Reference.{Reference}

abbrev pub meant : {L : Type 0} → Reference L → Meaning L
meant r = record { n = r.n; stock = r.stock.items; places = r.capacity - length r.stock.items; sealed = r.sealed; held = within r.held.items; holds = r.most_held - length r.held.items }

pub record SameLimits {L : Type 0} (old new : Reference L) : Type 0 where
  pub n : new.n ≡ old.n
  pub none : new.none ≡ old.none
  pub capacity : new.capacity ≡ old.capacity
  pub most_held : new.most_held ≡ old.most_held

pub record Kept {L : Type 0} (old new : Reference L) : Type 0 where
  pub limits : SameLimits old new
  pub sealed : new.sealed ≡ old.sealed
  pub stock : old.sealed ≡ true → new.stock.items ≡ old.stock.items
  -- no more arcs than places, and no more held packages than holds
  pub places : length old.stock.items ≤ old.capacity → length new.stock.items ≤ old.capacity
  pub holds : length old.held.items ≤ old.most_held → length new.held.items ≤ old.most_held
