use Rattle.std.proofs.Common.{ap, ◌∙◌}
use Rattle.stores.specs.Listed.{listed, all_in_bounds}
use Rattle.stores.proofs.Lists.{listed_none}
use Rattle.pair_list.proofs.Keeping.{bounds_none}
use Rattle.pair_list.proofs.pair_list.PairListPairSet.clear.Goals as goal

pub invariant_of-self : goal.invariant_of-self
invariant_of-self c = record { places = c.clear.ensures.limit ∙ c.args.self.now.places; within = ap all_in_bounds c.clear.ensures.items ∙ bounds_none }

pub returns : goal.returns
returns c = ap listed c.clear.ensures.items ∙ listed_none
