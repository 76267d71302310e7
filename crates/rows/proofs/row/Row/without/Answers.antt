use Rattle.rows.proofs.Bits.{bits_outside}
use Rattle.rows.proofs.row.Row.without.Goals as goal

pub returns : goal.returns
returns c = bits_outside c.args.self.bits c.args.other.bits
