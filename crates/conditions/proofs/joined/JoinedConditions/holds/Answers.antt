use Rattle.std.proofs.Common.{rules}
use Rattle.conditions.proofs.Splits.{split_below, split_above}
use Rattle.conditions.proofs.joined.JoinedConditions.holds.Goals as goal

pub returns-then-condition-self : goal.returns-then-condition-self
returns-then-condition-self g c = search (rules, split_below)

pub returns-else-condition-self : goal.returns-else-condition-self
returns-else-condition-self g c = search (rules, split_above)
