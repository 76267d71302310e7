use Rattle.std.proofs.Common.{sym, refl, ap, ◌∙◌, arith}
use Rattle.index_set.specs.Distinct.{is_distinct}
use Rattle.index_set.specs.Items.{items_of}
use Rattle.index_set.proofs.Apart.{apart_removed}
use Rattle.index_set.proofs.Moves.{gap_closed, removed_past}
use Rattle.index_set.proofs.Stored.{items_length, items_at, items_past}
use Rattle.index_set.proofs.index_set.IndexSet.shift_remove.Goals as goal

pub returns-then-index-self : goal.returns-then-index-self
returns-then-index-self g c =
    let s = c.args.self.now in
    let n = items_length s in
    record { answer = sym (items_past s c.args.index c.if-index-self.true); items = sym (removed_past (items_of s) c.args.index (omega arith)); limit = refl }

pub invariant_of-self : goal.invariant_of-self
invariant_of-self g c =
    let s = c.args.self.now in
    let m = gap_closed s.places.now _ c.args.index s.len c.if-index-self.false (omega (arith, s.within, s.fits)) c.copy_within.ensures.len c.copy_within.ensures.by_index.1 c.copy_within.ensures.by_index.0 in
    record {
      within = omega (arith, s.within);
      fits = omega (arith, s.fits, c.copy_within.ensures.len);
      distinct = ap (is_distinct g.X.Same.alike) m ∙ apart_removed g.X.Same.alike (items_of s) c.args.index s.distinct;
    }

pub returns : goal.returns
returns g c =
    let s = c.args.self.now in
    record {
      answer = sym (items_at s c.args.index _ c.if-index-self.false);
      items = gap_closed s.places.now _ c.args.index s.len c.if-index-self.false (omega (arith, s.within, s.fits)) c.copy_within.ensures.len c.copy_within.ensures.by_index.1 c.copy_within.ensures.by_index.0;
      limit = refl;
    }
