use Rattle.std.proofs.Common.{◌∙◌, rules, refl, tests}
use Rattle.std.proofs.lemmas.Iterator.{YieldsList-from_range}
use Rattle.std.proofs.lemmas.Iterator.Search.{any_from_yields_List}
use Rattle.rows.specs.Rows.{numbers}
use Rattle.rows.proofs.Finding.{beyond_is}
use Rattle.rows.proofs.row.Row.goes_beyond.Goals as goal

pub returns : goal.returns
returns c =
    any_from_yields_List (numbers c.args.self) _ _ c.any.result c.any.ensures.ran (YieldsList-from_range c.args.limit 32 _ refl refl) (λ x b q k. search (rules, tests))
    ∙ beyond_is c.args.self.bits c.args.limit
