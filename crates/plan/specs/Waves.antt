-- Waves in records.
use Rattle.std.specs.Prelude.{ℕ, cond, List, ◌==◌, slice_index}
use Rattle.graphs.specs.declared.record.PackageRecord.{PackageRecord}
use Rattle.graphs.specs.Records.{no_wave}

-- a record with its wave
abbrev pub with_wave : PackageRecord → ℕ → PackageRecord
with_wave r w = record { group = r.group; rank = r.rank; wave = w }

-- the wave of a rank, none where it is not in the plan
abbrev pub wave_at : List ℕ → List ℕ → ℕ → ℕ
wave_at live waves rank = cond (slice_index live rank == 0) no_wave (slice_index waves rank)
