use Rattle.rows.proofs.Bits.{bits_and}
use Rattle.rows.proofs.row.Row.and.Goals as goal

pub returns : goal.returns
returns c = bits_and c.args.self.bits c.args.other.bits
