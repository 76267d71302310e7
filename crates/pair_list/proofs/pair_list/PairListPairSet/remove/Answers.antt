use Rattle.std.proofs.Common.{sym, ap, ◌∙◌}
use Rattle.index_set.specs.Items.{items_of}
use Rattle.stores.specs.Listed.{listed, all_in_bounds}
use Rattle.stores.proofs.Pairs.{without_absent}
use Rattle.pair_list.proofs.Listing.{listed_absent, listed_found, listed_removed}
use Rattle.pair_list.proofs.Keeping.{bounds_removed}
use Rattle.pair_list.proofs.pair_list.PairListPairSet.remove.Goals as goal

pub invariant_of-self : goal.invariant_of-self
invariant_of-self c =
    let s = c.args.self.now in
    let e = c.shift_remove.ensures in
    record { places = e.limit ∙ s.places; within = ap all_in_bounds e.items ∙ bounds_removed (items_of s.list) _ s.within }

pub returns-in-Some : goal.returns-in-Some
returns-in-Some c =
    let s = c.args.self.now in
    let t = c.in-Some.ensures.words in
    record {
      answer = sym (listed_found (items_of s.list) (record { left = c.args.left; right = c.args.right }) _ s.within t);
      after = ap listed c.shift_remove.ensures.items ∙ listed_removed (items_of s.list) (record { left = c.args.left; right = c.args.right }) _ s.within s.list.distinct t;
    }

pub returns-in-None : goal.returns-in-None
returns-in-None c =
    let s = c.args.self.now in
    let n = listed_absent (items_of s.list) (record { left = c.args.left; right = c.args.right }) c.in-None.ensures.words in
    record { answer = sym n; after = sym (without_absent _ _ _ n) }
