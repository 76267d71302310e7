use Rattle.std.proofs.Common.{sym, refl, ap, ◌∙◌, arith}
use Rattle.std.proofs.ByRecursion.{all_from_every}
use Rattle.std.proofs.lemmas.List.{take_more_set, length-set}
use Rattle.index_set.specs.Distinct.{is_distinct}
use Rattle.index_set.specs.Items.{items_of}
use Rattle.index_set.proofs.Apart.{apart_push}
use Rattle.index_set.proofs.Inserts.{inserts}
use Rattle.index_set.proofs.Stored.{items_length}
use Rattle.index_set.proofs.index_set.IndexSet.insert.Goals as goal

pub invariant_of-self : goal.invariant_of-self
invariant_of-self g c =
    let s = c.args.self.now in
    let e = g.X.Same.alike in
    let m = take_more_set s.places.now s.len c.args.x (omega (arith, s.within, s.fits)) in
    record {
      within = omega arith;
      fits = simp length-set s.fits;
      distinct = ap (is_distinct e) m ∙ apart_push e (items_of s) c.args.x (all_from_every _ (items_of s) c.in_default.ensures.words) s.distinct;
    }

pub returns : goal.returns
returns g c =
    let s = c.args.self.now in
    let n = items_length s in
    let a = c.in_default.ensures in
    record {
      answer = inserts g.X.Same.alike (items_of s) c.args.x s.len s.limit a.place n (omega arith);
      words = (sym n, a.words, omega arith);
      items = take_more_set s.places.now s.len c.args.x (omega (arith, s.within, s.fits));
      limit = refl;
    }
