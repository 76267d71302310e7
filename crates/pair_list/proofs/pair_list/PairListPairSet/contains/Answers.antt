use Rattle.std.proofs.Common.{◌∙◌}
use Rattle.index_set.specs.Items.{items_of}
use Rattle.pair_list.proofs.Listing.{listed_told}
use Rattle.pair_list.proofs.pair_list.PairListPairSet.contains.Goals as goal

pub returns : goal.returns
returns c =
    let s = c.args.self.now in
    c.is_some.ensures ∙ listed_told (items_of s.list) (record { left = c.args.left; right = c.args.right }) _ s.within c.index_of.ensures.words
