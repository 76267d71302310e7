use Rattle.std.proofs.Common.{refl}
use Rattle.rows.proofs.Bits.{bits_none}
use Rattle.rows.proofs.row.Row.new.Goals as goal

pub returns : goal.returns
returns c = record { empty = bits_none; exact = refl }
