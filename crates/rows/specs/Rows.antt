use Rattle.std.specs.Prelude.{ℕ, ◌^◌, Bool, cond, not, ◌&&◌, bit_xor}
use Rattle.rows.specs.Numbers.{bits_of, in_row}
use Rattle.rows.specs.declared.row.Row.{Row}

-- the set of numbers that a row holds
abbrev pub numbers : Row → ℕ → Bool
numbers s = bits_of s.bits

-- the row with no number in it
abbrev pub empty_row : Row
empty_row = record { bits = 0 }

-- the row with one number put in if it was absent, else taken out: its bit turned over
abbrev pub row_flipped : Row → ℕ → Row
row_flipped s n = record { bits = bit_xor s.bits (2 ^ n) }

-- the row with one number put in; the row itself where it has the number, or the number is out of range
unfoldable pub row_with : Row → ℕ → Row
row_with s n = cond (in_row n && not (numbers s n)) (row_flipped s n) s
