use Rattle.std.proofs.Common.{rules}
use Rattle.rows.proofs.Finding.{two_is}
use Rattle.rows.proofs.row.Row.has_two.Goals as goal

pub returns : goal.returns
returns c = two_is c.args.self.bits (search rules)
