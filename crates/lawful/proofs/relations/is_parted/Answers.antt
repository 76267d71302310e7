use Rattle.std.proofs.Common.{rules, tests}
use Rattle.rows.specs.Rows.{numbers}
use Rattle.search.proofs.Ranges.{any_below}
use Rattle.stores.specs.Rows.{pairs_in}
use Rattle.lawful.specs.Breaking.{parted_by}
use Rattle.lawful.proofs.relations.is_parted.Goals as goal

pub returns : goal.returns
returns c = any_below (parted_by (pairs_in c.args.pairs.now) (numbers c.args.roles) c.args.role) 32 _ _ _ c.any.ensures.ran (λ x b q k. search (rules, tests))
