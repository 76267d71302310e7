use Rattle.std.proofs.Common.{sym, ap, ◌∙◌, arith}
use Rattle.index_set.specs.Items.{items_of}
use Rattle.stores.specs.Listed.{listed, all_in_bounds}
use Rattle.stores.proofs.Lists.{listed_push}
use Rattle.stores.proofs.Pairs.{bounds_true, bounds_false, with_out, with_there}
use Rattle.pair_list.proofs.Listing.{listed_absent, listed_found}
use Rattle.pair_list.proofs.Keeping.{bounds_grown, never_full}
use Rattle.pair_list.proofs.pair_list.PairListPairSet.insert.Goals as goal

pub returns-then-left-ge-LEFTS : goal.returns-then-left-ge-LEFTS
returns-then-left-ge-LEFTS c =
    let o = bounds_false c.args.left c.args.right c.then-left-ge-LEFTS.either in
    record { answer = rw o; after = sym (with_out _ _ _ o) }

pub invariant_of-self : goal.invariant_of-self
invariant_of-self c =
    let s = c.args.self.now in
    let e = c.insert.ensures in
    let b = bounds_true c.args.left c.args.right c.if-left-ge-LEFTS.false c.if-right-ge-RIGHTS.false in
    record { places = e.limit ∙ s.places; within = ap all_in_bounds e.items ∙ bounds_grown c.insert.result (items_of s.list) _ b s.within }

pub returns-in-Inserted : goal.returns-in-Inserted
returns-in-Inserted c =
    let ps = items_of c.args.self.now.list in
    let b = bounds_true c.args.left c.args.right c.if-left-ge-LEFTS.false c.if-right-ge-RIGHTS.false in
    let t = c.in-Inserted.ensures in
    let n = listed_absent ps (record { left = c.args.left; right = c.args.right }) t.words.1 in
    record { answer = rw (b, n); after = ap listed t.items ∙ listed_push ps _ }

pub returns-in-AlreadyThere : goal.returns-in-AlreadyThere
returns-in-AlreadyThere c =
    let s = c.args.self.now in
    let b = bounds_true c.args.left c.args.right c.if-left-ge-LEFTS.false c.if-right-ge-RIGHTS.false in
    let t = c.in-AlreadyThere.ensures in
    let n = listed_found (items_of s.list) (record { left = c.args.left; right = c.args.right }) _ s.within t.words in
    record { answer = rw (b, n); after = ap listed t.items ∙ sym (with_there _ _ _ n) }

pub unreachable-requires : goal.unreachable-requires
unreachable-requires c =
    let s = c.args.self.now in
    let b = bounds_true c.args.left c.args.right c.if-left-ge-LEFTS.false c.if-right-ge-RIGHTS.false in
    let t = c.in-Full.ensures.words in
    let room = never_full (items_of s.list) (record { left = c.args.left; right = c.args.right }) b s.within s.list.distinct t.0 in
    absurd (omega (arith, t.1, s.places, room))
