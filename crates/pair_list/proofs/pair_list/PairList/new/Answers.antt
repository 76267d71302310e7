use Rattle.std.proofs.Common.{ap, ◌∙◌}
use Rattle.stores.specs.Listed.{listed, all_in_bounds}
use Rattle.stores.proofs.Lists.{listed_none}
use Rattle.pair_list.proofs.Keeping.{bounds_none}
use Rattle.pair_list.proofs.pair_list.PairList.new.Goals as goal

pub invariant_of-result : goal.invariant_of-result
invariant_of-result c = record { places = c.requires.places; within = ap all_in_bounds c.requires.empty ∙ bounds_none }

pub returns : goal.returns
returns c = ap listed c.requires.empty ∙ listed_none
