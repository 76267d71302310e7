use Rattle.std.proofs.Common.{◌≡◌, None, rules}
use Rattle.stores.proofs.Differences.{differ, same_where_none, first_where_some}
use Rattle.stores.proofs.whole_sets.first_difference.Goals as goal

pub returns : goal.returns
returns g c =
    let f = c.in_ok-left.ensures (differ (g.S.PairSet.pairs c.args.one.now) (g.T.PairSet.pairs c.args.two.now)) (λ l r b p q k. search rules) in
    first_where_some _ _ (g.S.PairSet.bounded _) (g.T.PairSet.bounded _) _ _ f.1

pub returns-in_err-left : goal.returns-in_err-left
returns-in_err-left g c =
    let f = c.in_err-left.ensures (differ (g.S.PairSet.pairs c.args.one.now) (g.T.PairSet.pairs c.args.two.now)) (λ l r b p q k. search rules) in
    let e : c.from_residual.result ≡ None = search rules in
    rw e (same_where_none _ _ (g.S.PairSet.bounded _) (g.T.PairSet.bounded _) f.1)
