use Rattle.std.proofs.Common.{sym, ap, ◌∙◌, take_all}
use Rattle.stores.specs.Listed.{listed}
use Rattle.stores.proofs.Lists.{listed_none, listed_step}
use Rattle.stores.proofs.whole_sets.fill.Goals as goal

pub loop-pair-init : goal.loop-pair-init
loop-pair-init g c = c.clear.ensures ∙ sym listed_none

pub loop-pair-preserved : goal.loop-pair-preserved
loop-pair-preserved g c = listed_step _ _ _ _ _ c.loop-pair-test.true c.loop-pair.invariant c.insert.ensures.after

pub returns : goal.returns
returns g c = c.loop-pair.invariant ∙ ap listed (take_all _ _ c.loop-pair-test.false)
