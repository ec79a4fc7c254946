-- Width: the larger, the smaller, and the widths that words name.
use Rattle.std.specs.Prelude.{ℕ, ◌^◌, ◌<◌, min, max, cond, Some, None, Option, ◌==◌}
use Rattle.std.proofs.Common.{arith}
use Rattle.labels.specs.Algebra.{Ops}
pub use Rattle.labels.specs.Fits.{min_fits, top_fits}
use Rattle.cases.specs.declared.width.Width.{Width}

pub max_fits : (m n : ℕ) → m < 2 ^ 32 → n < 2 ^ 32 → max m n < 2 ^ 32
max_fits m n h k = omega arith

abbrev pub width_of : ℕ → Width
width_of n = record { value = min n 4294967295; fits = top_fits n }

abbrev pub no_width : Width
no_width = width_of 0

abbrev pub full_width : Width
full_width = width_of 4294967295

abbrev pub wider : Width → Width → Width
wider x y = record { value = max x.value y.value; fits = max_fits x.value y.value x.fits y.fits }

abbrev pub narrower : Width → Width → Width
narrower x y = record { value = min x.value y.value; fits = min_fits x.value y.value x.fits }

abbrev pub width_ops : Ops Width
width_ops = record { none = no_width; whole = full_width; join = wider; extend = narrower; same = λ x y. (x.value == y.value) }

-- every word but 0 names itself
abbrev pub width_named : ℕ → Option Width
width_named w = cond (w == 0) None (Some (width_of w))
