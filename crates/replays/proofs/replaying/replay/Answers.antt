use Rattle.std.proofs.Common.{is_ok, refl, ap, ◌∙◌}
use Rattle.house.specs.Views.{draft_of, state_of}
use Rattle.replays.proofs.Opening.{none_out, played}
use Rattle.replays.proofs.replaying.replay.Goals as goal

pub new-keeper-requires : goal.new-keeper-requires
new-keeper-requires g c =
    none_out (is_ok c.open-opened.result) _ _ _ c.open-opened.ensures.state refl (ap (λ x. x.lease) c.new-house.ensures.state)

pub returns : goal.returns
returns g c =
    let k = c.new-keeper.ensures in
    let o = c.open-opened.ensures in
    played c.args.draft.now (draft_of c.new-house.result) (state_of c.new-house.result) c.args.calls.now c.new-keeper.result c.play-history.new.self c.open-opened.result
    c.new-house.ensures.state c.new-house.ensures.empty o.answer (ap draft_of k ∙ o.draft) (ap state_of k ∙ o.state) c.play-history.ensures.same
    c.play-history.result c.play-history.ensures.run
