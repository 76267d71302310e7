use Rattle.std.proofs.Common.{ap, ◌∙◌}
use Rattle.search.specs.Below.{all_below}
use Rattle.rows.specs.Numbers.{agree}
use Rattle.rows.specs.Rows.{numbers}
use Rattle.rows.proofs.Numbers.{within_is}
use Rattle.rows.proofs.row.Row.is_within.Goals as goal

pub returns : goal.returns
returns c =
    c.equals.ensures.exact ∙ ap (λ s. all_below (agree s (numbers c.args.self)) 32) c.and.ensures
    ∙ within_is (numbers c.args.self) (numbers c.args.other)
