-- What rows of bits stand for.
use Rattle.std.specs.Prelude.{ℕ, Bool, cond, ◌&&◌, List, nat_lt, slice_index_or, slice_set}
use Rattle.rows.specs.Rows.{numbers, empty_row, row_with}
use Rattle.rows.specs.declared.row.Row.{Row}
use Rattle.stores.specs.declared.bit_rows.BitRows.{BitRows}

-- whether the number b is in row a
unfoldable pub row_pairs : List Row → ℕ → ℕ → Bool
row_pairs rows a b = nat_lt a 64 && numbers (slice_index_or rows a empty_row) b

-- the set of pairs that bit rows hold
abbrev pub pairs_in : BitRows → ℕ → ℕ → Bool
pairs_in s = row_pairs s.rows

-- the bit rows with the pair l, r put in: the number r in row l; the rows themselves where l is out of bounds
unfoldable pub rows_with : BitRows → ℕ → ℕ → BitRows
rows_with s l r = cond (nat_lt l 64) (record { rows = slice_set s.rows l (row_with (slice_index_or s.rows l empty_row) r) }) s
