-- What a round leaves of its three tables.
use Rattle.std.specs.Prelude.{◌≡◌, ℕ, ◌<◌, Bool, true, false, List, slice_index_or}
use Rattle.labels.specs.Algebra.{Ops}

-- the cells below u once what was found is joined to them: `were` and `ways` are the cells and what was found before
pub record Settled {K : Type 0} (o : Ops K) (were ways cells changed found : List K) (u : ℕ) (moved : Bool) : Type 0 where
  pub joined : (v : ℕ) → v < u → slice_index_or cells v o.none ≡ o.join (slice_index_or were v o.none) (slice_index_or ways v o.none)
  -- what is kept as changed makes the new table of the old
  pub told : (v : ℕ) → v < u → o.join (slice_index_or were v o.none) (slice_index_or changed v o.none) ≡ slice_index_or cells v o.none
  pub clean : (v : ℕ) → v < u → slice_index_or found v o.none ≡ o.none
  pub still : moved ≡ false → (v : ℕ) → v < u → slice_index_or cells v o.none ≡ slice_index_or were v o.none
  pub stirred : moved ≡ true → ((v : ℕ) → v < u → slice_index_or cells v o.none ≡ slice_index_or were v o.none) → ⊥
