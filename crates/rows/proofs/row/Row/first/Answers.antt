use Rattle.std.proofs.Common.{rules}
use Rattle.rows.proofs.Finding.{first_of_none, first_of_some}
use Rattle.rows.proofs.row.Row.first.Goals as goal

pub returns-then-self-eq0 : goal.returns-then-self-eq0
returns-then-self-eq0 c = first_of_none c.args.self.bits c.if-self-eq0.true

pub returns-else-self-eq0 : goal.returns-else-self-eq0
returns-else-self-eq0 c = first_of_some c.args.self.bits (search rules) c.if-self-eq0.false
