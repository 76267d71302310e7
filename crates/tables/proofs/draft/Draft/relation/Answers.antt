use Rattle.std.proofs.Common.{[], get_or, ap}
use Rattle.stores.specs.Rows.{pairs_in}
use Rattle.tables.specs.Drafts.{related}
use Rattle.tables.proofs.draft.Draft.relation.Goals as goal

pub returns : goal.returns
unfolding related
returns c = ap (λ k. pairs_in (get_or c.args.self.now.relations k (record { rows = [] }))) c.index.ensures.value
