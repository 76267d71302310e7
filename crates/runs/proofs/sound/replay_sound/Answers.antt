use Rattle.std.proofs.Common.{refl, ◌∙◌, arith, take_all}
use Rattle.runs.proofs.Ruling.{so_far_none, so_far_more, replayed}
use Rattle.runs.proofs.sound.replay_sound.Goals as goal

pub loop-call-init : goal.loop-call-init
loop-call-init g c =
    let m = c.in_ok-history.ensures in
    (m.len, m.capacity, refl, (λ h. h), (λ _. so_far_none _ _ _ _ m.items refl))

pub loop-call-preserved : goal.loop-call-preserved
loop-call-preserved g c =
    let i = c.loop-call.invariant in
    let p = c.push_reserved.ensures in
    let a = c.answer-answer.ensures in (
      omega (arith, i.0, p.len),
      omega (arith, i.1, p.capacity),
      a.same ∙ i.2,
      (λ h. a.sound (i.3 h)),
      (λ h. so_far_more _ _ _ _ _ _ _ _ _ _ _ c.loop-call-test.true i.2 (i.4 h) (a.answer (i.3 h)) (a.after (i.3 h)) p.items),
    )

pub returns : goal.returns
returns g c =
    let i = c.loop-call.invariant in
    let e = take_all c.loop-call.call-index c.args.calls.now c.loop-call-test.false in
    record { same = i.2; sound = i.3; run = λ h. replayed _ _ _ _ _ (rw e at (i.4 h)) }
