-- What the closings answer and leave.
use Rattle.std.specs.Prelude.{◌≡◌, ℕ, ◌*◌, Bool, true, cond, ◌||◌, List, ◌++◌, take, drop, is_ok, Ok, Err, Result, nat_lt}
use Rattle.labels.specs.Algebra.{Ops}
use Rattle.paths.specs.Chains.{Mem, L}
use Rattle.paths.specs.Tables.{table, rounds_made}
use Rattle.catalogue.specs.Meanings.{Meaning, in_force}
use Rattle.catalogue.specs.Calls.{outside}

-- does a table of so many cells have fewer than n × n?
abbrev pub short : ℕ → ℕ → Bool
short n cells = nat_lt cells (n * n)

module _ {K : Type 0} (o : Ops K) (m : Meaning K) where
  -- L(n) of every pair, written out row by row
  abbrev pub labels : List K
  labels = table m.n (L o (in_force m) m.n)

  -- what an accepted closing leaves: L(n), then the old cells from n × n on
  abbrev pub closed : List K → List K
  closed old = labels ++ drop (m.n * m.n) old

  -- a refused closing leaves the table as it was
  abbrev pub closing_leaves : {A : Type 0} → Result A ℕ → List K → List K
  closing_leaves answer old = cond (is_ok answer) (closed old) old

  -- by rounds, over a label table and two spare ones of so many cells: the rounds made
  abbrev pub rounds_answer : ℕ → ℕ → ℕ → Result ℕ ℕ
  rounds_answer cells changed found =
      cond (short m.n cells || (short m.n changed || short m.n found)) (Err 13) (Ok (rounds_made o (in_force m) m.n))

  -- by elimination, over a label table of so many cells
  abbrev pub elimination_answer : ℕ → Result (Unit {0}) ℕ
  elimination_answer cells = cond (short m.n cells) (Err 13) (Ok tt)

  -- the label of a pair, read from a closed table of so many cells: 6 for no package, 13 for a short table
  abbrev pub label_answer : ℕ → ℕ → ℕ → Result K ℕ
  label_answer cells from to =
      cond (outside m from || outside m to) (Err 6)
      (cond (short m.n cells) (Err 13) (Ok (L o (in_force m) m.n from to)))

-- some closings of n packages, each by whether it accepted and the table that it left: any two that accepted left the
-- same first n × n cells
abbrev pub Agree : {K : Type 0} → ℕ → List (Bool × List K) → Type 0
Agree {K} n closings = (a b : Bool × List K) → Mem a closings → Mem b closings → a.0 ≡ true → b.0 ≡ true → take (n * n) a.1 ≡ take (n * n) b.1
