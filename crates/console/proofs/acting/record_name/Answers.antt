use Rattle.std.proofs.Common.{◌∙◌, arith}
use Rattle.console.proofs.Fields.{first_value, no_value}
use Rattle.console.proofs.acting.record_name.Goals as goal

pub returns-in-empty : goal.returns-in-empty
returns-in-empty c = no_value c.args.fields.now (omega (arith, c.in-empty.len_below))

pub returns-in-len1-up : goal.returns-in-len1-up
returns-in-len1-up c = c.value.ensures ∙ first_value c.args.fields.now _ (omega (arith, c.in-len1-up.len_at_least))
