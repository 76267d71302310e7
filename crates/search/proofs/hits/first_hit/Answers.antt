use Rattle.std.proofs.Common.{◌≡◌, sym, ap, ◌∙◌, arith}
use Rattle.search.specs.Firsts.{first_below, first_pair}
use Rattle.search.proofs.Finds.{first_none, first_more, pair_none, pair_more, pair_found, pair_words}
use Rattle.search.proofs.hits.first_hit.Goals as goal

pub loop-left-init : goal.loop-left-init
loop-left-init g c = λ hit h. pair_none hit _

pub loop-right-init : goal.loop-right-init
loop-right-init g c = λ hit h. first_none (hit _)

pub returns-then-test : goal.returns-then-test
returns-then-test g c = λ hit h.
    let i = c.loop-left-test.true in
    let j = c.loop-right-test.true in
    let e = sym (pair_found hit _ _ _ _ i j (c.loop-left.invariant hit h) (c.loop-right.invariant hit h) (sym (h _ _ _ i j c.if-test.ensures))) in
    (e, pair_words hit c.args.lefts c.args.rights _ e)

pub loop-right-preserved : goal.loop-right-preserved
loop-right-preserved g c = λ hit h. first_more (hit _) _ (c.loop-right.invariant hit h) (sym (h _ _ _ c.loop-left-test.true c.loop-right-test.true c.if-test.ensures))

pub loop-left-preserved : goal.loop-left-preserved
loop-left-preserved g c = λ hit h.
    let n : c.loop-right.right ≡ c.args.rights = omega arith in
    pair_more hit _ _ (c.loop-left.invariant hit h) (ap (λ k. first_below (hit c.loop-left.left) k) (sym n) ∙ c.loop-right.invariant hit h)

pub returns : goal.returns
returns g c = λ hit h.
    let n : c.loop-left.left ≡ c.args.lefts = omega arith in
    let e = sym (c.loop-left.invariant hit h) ∙ ap (λ k. first_pair hit k c.args.rights) n in
    (e, pair_words hit c.args.lefts c.args.rights _ e)
