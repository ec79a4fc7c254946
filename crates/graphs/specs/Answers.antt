-- What sort and closing by order answer.
use Rattle.std.specs.Prelude.{ℕ, ◌+◌, ◌*◌, Bool, cond, ◌||◌, length, Ok, Err, Result, nat_lt}
use Rattle.paths.specs.Groups.{group_count, looped}
use Rattle.catalogue.specs.Meanings.{Meaning, in_force}
use Rattle.tables.specs.Closings.{short}

module _ {K : Type 0} (m : Meaning K) where
  -- are so many records, or so many work words, too few to sort?
  abbrev pub lacks : ℕ → ℕ → Bool
  lacks records words = nat_lt records m.n || nat_lt words (16 * m.n + length m.stock)

  -- the number of groups
  abbrev pub sort_answer : ℕ → ℕ → Result ℕ ℕ
  sort_answer records words = cond (lacks records words) (Err 13) (Ok (group_count (in_force m) m.n))

  -- are these, or the cells of a table, too few to close by order?
  abbrev pub order_lacks : ℕ → ℕ → ℕ → Bool
  order_lacks cells records words = short m.n cells || lacks records words

  -- 14 where a chain leads back to its start
  abbrev pub order_answer : ℕ → ℕ → ℕ → Result (Unit {0}) ℕ
  order_answer cells records words =
      cond (order_lacks cells records words) (Err 13) (cond (looped (in_force m) m.n) (Err 14) (Ok tt))
