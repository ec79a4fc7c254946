-- Whether each package is the name of its group.
use Rattle.std.proofs.Common.{◌≡◌, ℕ, ◌<◌, true, false, eqb, List, length, eq-eqb, eqb-true}
use Rattle.std.proofs.lemmas.Bool.{false_from_ne_true}
use Rattle.paths.proofs.Tests.{every_sound, every_full}
use Rattle.graphs.specs.Records.{PackageRecord, of, own_names}

module _ (rs : List PackageRecord) where
  pub all_own : ((p : ℕ) → p < length rs → (of rs p).group ≡ p) → own_names rs ≡ true
  all_own own = every_full (λ p. eqb (of rs p).group p) (length rs) (λ p h. eq-eqb (of rs p).group p (own p h))

  pub one_other : (p : ℕ) → p < length rs → ((of rs p).group ≡ p → ⊥) → own_names rs ≡ false
  one_other p h other = false_from_ne_true (own_names rs) (λ e. other (eqb-true (of rs p).group p (every_sound (λ p. eqb (of rs p).group p) (length rs) e p h)))
