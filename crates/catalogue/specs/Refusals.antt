-- The numbers of the refusals.
use Rattle.std.specs.Prelude.{ℕ, List, ◌++◌, Ok, Err, Result, codes, decimal}
pub use Rattle.catalogue.specs.declared.refusal.Refusal.{Refusal}
use Rattle.catalogue.specs.declared.refusal.Refusal.TheVariants.{BadCount, BadSize, BadRun, LabelNone, Sealed, NoPackage, EqualEnds, Full, NoSuchArc, AlreadyHeld, NoHolds, NotHeld, ShortBuffer, Loop, Held, NotCommand}

abbrev pub number : Refusal → ℕ
number BadCount = 1
number BadSize = 2
number BadRun = 3
number LabelNone = 4
number Sealed = 5
number NoPackage = 6
number EqualEnds = 7
number Full = 8
number NoSuchArc = 9
number AlreadyHeld = 10
number NoHolds = 11
number NotHeld = 12
number ShortBuffer = 13
number Loop = 14
number Held = 15
number NotCommand = 16

-- the line that answers a refused call
abbrev pub refusal_text : Refusal → List ℕ
refusal_text e = codes "refused " ++ decimal (number e)

-- an answer, with a refusal by its number
abbrev pub answer : {A : Type 0} → Result A Refusal → Result A ℕ
answer (Ok v) = Ok v
answer (Err e) = Err (number e)

-- a function of what was taken
abbrev pub on_ok : {A B : Type 0} → (A → B) → Result A ℕ → Result B ℕ
on_ok f (Ok v) = Ok (f v)
on_ok f (Err k) = Err k

-- a further answer about what was taken
abbrev pub then : {A B : Type 0} → Result A ℕ → (A → Result B ℕ) → Result B ℕ
then (Ok v) f = f v
then (Err k) f = Err k

-- what was made, by what it means
abbrev pub meant : {S M : Type 0} → (S → M) → Result S Refusal → Result M ℕ
meant meaning (Ok s) = Ok (meaning s)
meant meaning (Err e) = Err (number e)
