-- The label kinds: their operations, and the labels that words name.
use Rattle.std.specs.Prelude.{ℕ, ◌+◌, min, Bool, true, false, cond, List, Some, None, Option, ◌==◌, bit_and, bit_or, nat_lt, codes, decimal}
use Rattle.std.proofs.Common.{arith}
use Rattle.std.specs.Int.Bits.{and_lt}
use Rattle.std.proofs.lemmas.Nat.{or_lt}
use Rattle.labels.specs.Algebra.{Ops}
pub use Rattle.labels.specs.Fits.{sum_or_none, sum_fits, min_fits, top_fits}
use Rattle.labels.specs.declared.kinds.Reach.{Reach}
use Rattle.labels.specs.declared.kinds.Reach.TheVariants.{No, Yes}
use Rattle.labels.specs.declared.kinds.Minutes.{Minutes}
use Rattle.labels.specs.declared.kinds.Licence.{Licence}

-- reach: or, and

abbrev pub either_way : Reach → Reach → Reach
either_way No y = y
either_way Yes y = Yes

abbrev pub both_ways : Reach → Reach → Reach
both_ways No y = No
both_ways Yes y = y

abbrev pub same_reach : Reach → Reach → Bool
same_reach No No = true
same_reach No Yes = false
same_reach Yes No = false
same_reach Yes Yes = true

abbrev pub reach_ops : Ops Reach
reach_ops = record { none = No; whole = Yes; join = either_way; extend = both_ways; same = same_reach }

abbrev pub reach_named : ℕ → Option Reach
reach_named w = cond (w == 1) (Some Yes) None

-- every word but the one of all ones names itself
abbrev pub names_itself : ℕ → Bool
names_itself w = nat_lt w 4294967295

-- minutes: the smaller, the sum

abbrev pub minutes_of : ℕ → Minutes
minutes_of n = record { value = sum_or_none n; fits = sum_fits n }

abbrev pub no_time : Minutes
no_time = minutes_of 4294967295

abbrev pub at_once : Minutes
at_once = minutes_of 0

abbrev pub sooner : Minutes → Minutes → Minutes
sooner x y = record { value = min x.value y.value; fits = min_fits x.value y.value x.fits }

abbrev pub one_then_other : Minutes → Minutes → Minutes
one_then_other x y = minutes_of (x.value + y.value)

abbrev pub minutes_ops : Ops Minutes
minutes_ops = record { none = no_time; whole = at_once; join = sooner; extend = one_then_other; same = λ x y. (x.value == y.value) }

abbrev pub minutes_named : ℕ → Option Minutes
minutes_named w = cond (names_itself w) (Some (minutes_of w)) None

-- as minutes are printed
abbrev pub minutes_text : Minutes → List ℕ
minutes_text x = cond (x.value == 4294967295) (codes "none") (decimal x.value)

-- licence: bitwise and, bitwise or

abbrev pub no_licence : Licence
no_licence = record { mask = 4294967295; fits = omega arith }

abbrev pub free : Licence
free = record { mask = 0; fits = omega arith }

abbrev pub common : Licence → Licence → Licence
common x y = record { mask = bit_and x.mask y.mask; fits = and_lt 32 x.mask y.mask x.fits y.fits }

abbrev pub combined : Licence → Licence → Licence
combined x y = record { mask = bit_or x.mask y.mask; fits = or_lt 32 x.mask y.mask x.fits y.fits }

abbrev pub licence_ops : Ops Licence
licence_ops = record { none = no_licence; whole = free; join = common; extend = combined; same = λ x y. (x.mask == y.mask) }

abbrev pub mask_of : ℕ → Licence
mask_of w = record { mask = min w 4294967295; fits = top_fits w }

abbrev pub licence_named : ℕ → Option Licence
licence_named w = cond (names_itself w) (Some (mask_of w)) None
