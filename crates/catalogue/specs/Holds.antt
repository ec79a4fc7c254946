-- What a layer with holds of its own means.
use Rattle.std.specs.Prelude.{◌≡◌, ℕ, ◌+◌, ◌-◌, ◌<◌, Bool, true, false, ◌||◌, List, length}
use Rattle.catalogue.specs.Meanings.{Meaning}
use Rattle.catalogue.specs.Lists.{within, once}
use Rattle.catalogue.specs.declared.holds.HeldList.{HeldList}

-- the packages of the list
abbrev pub packages : HeldList → List ℕ
packages h = h.list.items

-- none is twice in the list, held below, or n or more
pub record OwnOk (held : ℕ → Bool) (n : ℕ) (xs : List ℕ) : Type 0 where
  pub apart : once xs ≡ true
  pub fresh : (p : ℕ) → within xs p ≡ true → held p ≡ false
  pub inside : (p : ℕ) → within xs p ≡ true → p < n

-- what the layer means with these packages over m
abbrev pub held_over : {L : Type 0} → List ℕ → Meaning L → Meaning L
held_over xs m = record { n = m.n; stock = m.stock; places = m.places; sealed = m.sealed; held = λ p. within xs p || m.held p; holds = (32 - length xs) + m.holds }
