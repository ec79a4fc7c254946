-- One package's row of a table.
use Rattle.std.specs.Prelude.{ℕ, ◌+◌, ◌*◌, cond, not, List, length, Ok, Err, Result, nat_le}
use Rattle.std.specs.List.{between}
use Rattle.sheets.specs.Sheets.{count_test}
use Rattle.tables.specs.Closings.{short}

-- the n cells from p × n on; or 1 for a bad n, 13 for a short table, 6 for no package
abbrev pub row_answer : {A : Type 0} → List A → ℕ → ℕ → Result (List A) ℕ
row_answer cells n p =
    cond (not (count_test n)) (Err 1)
    (cond (short n (length cells)) (Err 13)
    (cond (nat_le n p) (Err 6) (Ok (between (p * n) (p * n + n) cells))))
