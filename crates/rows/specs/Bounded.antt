-- No number of a row is out of range: the fact that sources and sets made of rows hand to their traits.
use Rattle.std.specs.Prelude.{◌≡◌, ℕ, true}
use Rattle.std.proofs.lemmas.Bool.{and_parts}
use Rattle.rows.specs.Numbers.{bits_of, in_row}
use Rattle.rows.specs.Rows.{numbers}
use Rattle.rows.specs.declared.row.Row.{Row}

pub row_bounded : (s : Row) (k : ℕ) → numbers s k ≡ true → in_row k ≡ true
unfolding bits_of
row_bounded s k e = (and_parts (in_row k) _ e).0
