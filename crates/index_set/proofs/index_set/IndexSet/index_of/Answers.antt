use Rattle.std.proofs.Common.{sym, rules}
use Rattle.index_set.specs.Found.{Absent}
use Rattle.index_set.specs.Items.{items_of}
use Rattle.index_set.proofs.Places.{place_absent, place_found, found_in}
use Rattle.index_set.proofs.index_set.IndexSet.index_of.Goals as goal

pub returns-then-same : goal.returns-then-same
returns-then-same g c =
    let e = g.X.Same.alike in
    let found = found_in e _ (items_of c.args.self.now) c.args.x.now _ _ c.items-item-items.ensures c.loop-index-test.true c.item-item.is (sym c.if-same.ensures) c.loop-index.invariant in
    record { place = sym (place_found e (items_of c.args.self.now) c.args.x.now _ found); words = found }

pub returns : goal.returns
returns g c =
    let absent : Absent g.X.Same.alike (items_of c.args.self.now) c.args.x.now = search rules in
    record { place = sym (place_absent g.X.Same.alike _ _ absent); words = absent }
