use Rattle.std.proofs.Common.{rules}
use Rattle.rows.proofs.Bits.{bits_meet}
use Rattle.rows.proofs.row.Row.meets.Goals as goal

pub returns : goal.returns
returns c = bits_meet c.args.self.bits c.args.other.bits (search rules)
