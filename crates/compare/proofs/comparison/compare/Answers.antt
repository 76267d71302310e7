use Rattle.std.proofs.Common.{arith, take_all}
use Rattle.compare.proofs.Steps.{agreed_none, agreed_more}
use Rattle.compare.proofs.comparison.compare.Goals as goal

pub loop-step-init : goal.loop-step-init
loop-step-init g c =
    let m = c.in_ok-answers.ensures in
    (m.len, m.capacity, agreed_none _ _ _ _ m.items c.fill.ensures c.fill-2.ensures)

pub loop-step-preserved : goal.loop-step-preserved
loop-step-preserved g c =
    let i = c.loop-step.invariant in
    let p = c.push_reserved.ensures in (
      omega (arith, i.0, p.len),
      omega (arith, i.1, p.capacity),
      agreed_more _ _ _ _ _ _ _ _ _ _ _ c.loop-step-test.true i.2 c.play-one.ensures.answer c.play-two.ensures.answer c.play-one.ensures.after c.play-two.ensures.after p.items,
    )

pub returns : goal.returns
returns g c =
    let e = take_all c.loop-step.step-index c.args.steps.now c.loop-step-test.false in
    rw e at c.loop-step.invariant.2
