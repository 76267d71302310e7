use Rattle.std.proofs.Common.{◌∙◌}
use Rattle.rows.specs.Rows.{numbers}
use Rattle.conditions.proofs.Gathering.{within_is}
use Rattle.conditions.proofs.holding.is_within.Goals as goal

pub returns : goal.returns
returns c = c.is_within.ensures ∙ within_is (numbers c.args.wanted) (numbers c.args.there)
