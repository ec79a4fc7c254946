-- The numbers of the refusals.
use Rattle.std.proofs.Common.{◌≡◌, ℕ, zero, suc, ◌<◌, Ok, Err, Result, sym, refl, ap, ◌∙◌, arith}
use Rattle.std.specs.Result.{IsErrAnd}
use Rattle.catalogue.specs.Refusals.{Refusal, number}
use Rattle.catalogue.specs.declared.refusal.Refusal.TheVariants.{BadCount, BadSize, BadRun, LabelNone, Sealed, NoPackage, EqualEnds, Full, NoSuchArc, AlreadyHeld, NoHolds, NotHeld, ShortBuffer, Loop, Held, NotCommand}
use Rattle.catalogue.specs.SheetMeanings.{verdict, by_number}

pub numbered : (e : Refusal) → 0 < number e
numbered BadCount = omega arith
numbered BadSize = omega arith
numbered BadRun = omega arith
numbered LabelNone = omega arith
numbered Sealed = omega arith
numbered NoPackage = omega arith
numbered EqualEnds = omega arith
numbered Full = omega arith
numbered NoSuchArc = omega arith
numbered AlreadyHeld = omega arith
numbered NoHolds = omega arith
numbered NotHeld = omega arith
numbered ShortBuffer = omega arith
numbered Loop = omega arith
numbered Held = omega arith
numbered NotCommand = omega arith

-- what `?` hands on is the callee's refusal
pub handed_on : {A : Type 0} (r : Result A Refusal) (e : Refusal) → IsErrAnd r (λ x. x ≡ e) → verdict r ≡ number e
handed_on (Ok v) e h = elim h [ ]
handed_on (Err x) e h = ap number h

-- a refusal's answer
pub refused_by : {A : Type 0} (e : Refusal) (v : ℕ) (m : A) → number e ≡ v → Err (number e) ≡ by_number v m
refused_by e v m same = sym (at (number e) (numbered e)) ∙ ap (λ k. by_number k m) same
  where
    at : (k : ℕ) → 0 < k → by_number k m ≡ Err k
    at zero h = absurd (omega arith)
    at (suc k) h = refl
