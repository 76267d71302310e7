use Rattle.std.proofs.Common.{sym, ap, ◌∙◌, arith}
use Rattle.stores.proofs.Prefixes.{prefix_none, copied_in, copied_out, copied_row, copied_all}
use Rattle.stores.proofs.whole_sets.copy.Goals as goal
use Rattle.stores.proofs.whole_sets.copy.Goals.{then-contains, else-contains}

pub loop-left-init : goal.loop-left-init
loop-left-init g c = c.clear.ensures ∙ sym (prefix_none _)

pub loop-right-preserved : goal.loop-right-preserved
loop-right-preserved g c =
    elim c.if-contains.branch [
      | then-contains w ↦ ap g.T.PairSet.pairs w.target-is ∙ copied_in _ _ _ _ c.loop-right.invariant _ c.loop-left-test.true c.loop-right-test.true (sym c.contains.ensures ∙ w.if-contains.true) w.insert.ensures.after
      | else-contains w ↦ ap g.T.PairSet.pairs w.target-is ∙ copied_out _ _ _ _ c.loop-right.invariant (sym c.contains.ensures ∙ w.if-contains.false)
    ]

pub loop-left-preserved : goal.loop-left-preserved
loop-left-preserved g c = copied_row _ _ _ _ c.loop-right.invariant (g.S.PairSet.bounded _) (omega arith)

pub returns : goal.returns
returns g c = copied_all _ _ _ (g.S.PairSet.bounded _) c.loop-left.invariant (omega arith)
