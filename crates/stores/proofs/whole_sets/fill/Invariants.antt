use Rattle.std.proofs.Common.{◌≡◌, take}
use Rattle.stores.specs.Listed.{listed}
use Rattle.stores.proofs.whole_sets.fill.Given as goal

abbrev pub invariant-loop-pair : goal.invariant-loop-pair
invariant-loop-pair g l = g.S.PairSet.pairs l.store ≡ listed (take l.pair-index l.list)
