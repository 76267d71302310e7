use Rattle.std.proofs.Common.{◌∙◌, rules}
use Rattle.rows.proofs.Numbers.{equal_is, agree_decides}
use Rattle.rows.proofs.row.Row.equals.Goals as goal

pub returns : goal.returns
returns c =
    let e = c.eq.ensures ∙ equal_is c.args.self.bits c.args.other.bits (search rules) (search rules) in
    record { exact = e; words = agree_decides c.args.self.bits c.args.other.bits _ e }
