use Rattle.std.proofs.Common.{sym, refl, ap, ◌∙◌}
use lib.Seq.{take-set-lt}
use Rattle.std.proofs.lemmas.List.{length-set}
use Rattle.index_set.specs.Distinct.{is_distinct}
use Rattle.index_set.specs.Found.{is_alike}
use Rattle.index_set.specs.Items.{items_of}
use Rattle.index_set.proofs.Apart.{apart_set}
use Rattle.index_set.proofs.Stored.{items_at, items_past}
use Rattle.index_set.proofs.index_set.IndexSet.replace.Goals as goal

pub returns-then-index-self : goal.returns-then-index-self
returns-then-index-self g c =
    let s = c.args.self.now in
    record { answer = ap (λ o. is_alike g.X.Same.alike o c.args.x) (sym (items_past s c.args.index c.if-index-self.true)); items = refl; limit = refl }

pub returns-then-not-same : goal.returns-then-not-same
returns-then-not-same g c =
    let s = c.args.self.now in
    record { answer = c.if-not-same.ensures ∙ ap (λ o. is_alike g.X.Same.alike o c.args.x) (sym (items_at s c.args.index _ c.if-index-self.false)); items = refl; limit = refl }

pub invariant_of-self : goal.invariant_of-self
invariant_of-self g c =
    let s = c.args.self.now in
    let e = g.X.Same.alike in
    let t = c.if-not-same.ensures ∙ ap (λ o. is_alike e o c.args.x) (sym (items_at s c.args.index _ c.if-index-self.false)) in
    let m = take-set-lt s.len s.places.now c.args.index c.args.x c.if-index-self.false in
    record {
      within = s.within;
      fits = simp length-set s.fits;
      distinct = ap (is_distinct e) m ∙ apart_set e g.met.X.Same.symmetric g.met.X.Same.transitive c.args.x (items_of s) c.args.index (sym t) s.distinct;
    }

pub returns : goal.returns
returns g c =
    let s = c.args.self.now in
    record {
      answer = c.if-not-same.ensures ∙ ap (λ o. is_alike g.X.Same.alike o c.args.x) (sym (items_at s c.args.index _ c.if-index-self.false));
      items = take-set-lt s.len s.places.now c.args.index c.args.x c.if-index-self.false;
      limit = refl;
    }
