use Rattle.std.proofs.Common.{◌≡◌, [], length, get_or, refl, ap, ◌∙◌, arith, rules}
use Rattle.stores.specs.Pairs.{with_pair}
use Rattle.stores.specs.Rows.{pairs_in}
use Rattle.tables.specs.Drafts.{related}
use Rattle.tables.proofs.Relating.{related_set, draft_set, index_below}
use Rattle.tables.proofs.draft.Draft.relate.Goals as goal

pub returns : goal.returns
unfolding related
returns c =
    let d = c.args.self.now in
    let at = c.index.ensures.value in
    let n : length d.relations ≡ 12 = search rules in
    let here = c.insert.ensures.after ∙ ap (λ k. with_pair (pairs_in (get_or d.relations k (record { rows = [] }))) c.args.left c.args.right) at in
    record {
      answer = search rules;
      pairs = related_set d.relations c.args.relation c.insert.new.self c.args.left c.args.right (omega (arith, index_below c.args.relation)) here _ at;
      rest = refl;
      exact = draft_set d c.args.relation _ c.args.left c.args.right _ at c.insert.ensures.exact;
    }
