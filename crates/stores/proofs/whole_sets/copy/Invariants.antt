use Rattle.std.proofs.Common.{◌≡◌}
use Rattle.stores.proofs.Prefixes.{prefix}
use Rattle.stores.proofs.whole_sets.copy.Given as goal

abbrev pub invariant-loop-left : goal.invariant-loop-left
invariant-loop-left g l = g.T.PairSet.pairs l.target ≡ prefix (g.S.PairSet.pairs l.source) l.left 0

abbrev pub invariant-loop-right : goal.invariant-loop-right
invariant-loop-right g l = g.T.PairSet.pairs l.target ≡ prefix (g.S.PairSet.pairs l.source) l.left l.right
