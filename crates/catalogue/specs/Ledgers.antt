-- What a ledger means.
use Rattle.std.specs.Prelude.{ℕ, ◌-◌, ◌≤◌, min, false, cond, List, [], length, take, Ok, Err, Result}
use Rattle.labels.specs.Algebra.{Ops}
use Rattle.sheets.specs.Sheets.{count_test}
use Rattle.paths.specs.declared.arc.Arc.{Arc}
use Rattle.catalogue.specs.Meanings.{Meaning, Sound}

module _ {L : Type 0} where
  -- the first `len` records are the stock
  abbrev pub ledger : ℕ → ℕ → List (Arc L) → Meaning L
  ledger n len arcs = record { n = n; stock = take len arcs; places = length arcs - len; sealed = false; held = λ _. false; holds = 0 }

  pub record LedgerOk (o : Ops L) (n len : ℕ) (arcs : List (Arc L)) : Type 0 where
    pub filled : len ≤ length arcs
    pub sound : Sound o (ledger n len arcs)

  -- a ledger as it is made over an array of so many records
  abbrev pub blank : ℕ → ℕ → Meaning L
  blank n places = record { n = n; stock = []; places = places; sealed = false; held = λ _. false; holds = 0 }

  abbrev pub ledger_made : ℕ → ℕ → Result (Meaning L) ℕ
  ledger_made n records = cond (count_test n) (Ok (blank n (min records 65536))) (Err 1)
