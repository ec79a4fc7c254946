-- What stands where in a sheet, and the number of the first check that a list of bytes does not meet.
use Rattle.std.specs.Prelude.{ℕ, zero, suc, ◌+◌, ◌*◌, ◌/◌, ◌%◌, Bool, cond, not, ◌&&◌, List, [], ◌∷◌, ◌++◌, map, length, is_some, Option, ◌==◌, nat_le, nat_lt, slice_index}
use Rattle.std.specs.List.{range_with_len, flat_map}

-- the 32-bit field at a byte, lowest byte first
unfoldable pub word_at : List ℕ → ℕ → ℕ
word_at bytes at = slice_index bytes at + slice_index bytes (at + 1) * 256 + slice_index bytes (at + 2) * 65536 + slice_index bytes (at + 3) * 16777216

-- first comes n, then n pairs of offset and length
abbrev pub count_of : List ℕ → ℕ
count_of bytes = word_at bytes 0

abbrev pub offset_of : List ℕ → ℕ → ℕ
offset_of bytes p = word_at bytes (4 + 8 * p)

abbrev pub size_of : List ℕ → ℕ → ℕ
size_of bytes p = word_at bytes (4 + 8 * p + 4)

-- where package p's run is due: after the pairs, or where the run before it ends
abbrev pub due : List ℕ → ℕ → ℕ
due bytes zero = 4 + 8 * count_of bytes
due bytes (suc p) = offset_of bytes p + size_of bytes p

-- an arc as the bytes state it
pub record Entry : Type 0 where
  pub from : ℕ
  pub to : ℕ
  pub word : ℕ

abbrev pub entry : ℕ → ℕ → ℕ → Entry
entry f t w = record { from = f; to = t; word = w }

-- arc j of package p, of those from a byte on
abbrev pub entry_at : List ℕ → ℕ → ℕ → ℕ → Entry
entry_at bytes p at j = entry p (word_at bytes (at + 8 * j)) (word_at bytes (at + 8 * j + 4))

-- `many` arcs of package p from a byte on; the run of package p; the runs in order
abbrev pub run_at : List ℕ → ℕ → ℕ → ℕ → List Entry
run_at bytes p at many = map (entry_at bytes p at) (range_with_len 0 many)

abbrev pub run : List ℕ → ℕ → List Entry
run bytes p = run_at bytes p (offset_of bytes p) (size_of bytes p / 8)

abbrev pub entries : List ℕ → List Entry
entries bytes = flat_map (run bytes) (range_with_len 0 (count_of bytes))

-- a check: 0 where it is met, else its number
abbrev pub check : ℕ → Bool → ℕ
check number met = cond met 0 number

-- the number of the first check not met, or 0
abbrev pub first_unmet : List ℕ → ℕ
first_unmet [] = 0
first_unmet (zero ∷ cs) = first_unmet cs
first_unmet (suc k ∷ cs) = suc k

-- n is in its limits
abbrev pub count_test : ℕ → Bool
count_test n = nat_le 1 n && nat_le n 1024

-- the run stands where it is due, with whole arcs, inside the sheet
abbrev pub run_test : ℕ → ℕ → ℕ → ℕ → Bool
run_test offset size due len = offset == due && (size % 8 == 0 && nat_le (offset + size) len)

-- the runs end with the sheet, with no more arcs than a stock may have
abbrev pub end_test : ℕ → ℕ → ℕ → Bool
end_test end len arcs = end == len && nat_le arcs 65536

abbrev pub pair_check : List ℕ → ℕ → ℕ
pair_check bytes p = check 3 (run_test (offset_of bytes p) (size_of bytes p) (due bytes p) (length bytes))

abbrev pub pair_checks : List ℕ → List ℕ
pair_checks bytes = map (pair_check bytes) (range_with_len 0 (count_of bytes))

module _ {L : Type 0} (named : ℕ → Option L) where
  abbrev pub entry_check : ℕ → Entry → ℕ
  entry_check n e = first_unmet (check 6 (nat_lt e.from n && nat_lt e.to n) ∷ check 7 (not (e.from == e.to)) ∷ check 4 (is_some (named e.word)) ∷ [])

  -- all checks, in their order
  abbrev pub sheet_checks : List ℕ → List ℕ
  sheet_checks bytes =
      check 2 (nat_le 4 (length bytes))
      ∷ check 1 (count_test (count_of bytes))
      ∷ check 2 (nat_le (4 + 8 * count_of bytes) (length bytes))
      ∷ (pair_checks bytes
      ++ (check 2 (end_test (due bytes (count_of bytes)) (length bytes) (length (entries bytes)))
      ∷ map (entry_check (count_of bytes)) (entries bytes)))

  unfoldable pub sheet_check : List ℕ → ℕ
  sheet_check bytes = first_unmet (sheet_checks bytes)
