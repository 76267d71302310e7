use Rattle.house.specs.Views.{draft_of, state_of}
use Rattle.std.proofs.Common.{vec_items}
use Rattle.replays.specs.Playing.{Ran, NotRun}
use Rattle.replays.proofs.Agreement.{agreement}
use Rattle.replays.proofs.Opening.{from_ok}
use Rattle.replays.proofs.comparing.compare.Goals as goal

pub returns : goal.returns
returns g c =
    let d = c.args.draft.now in
    let a = c.replay.ensures in
    let b = c.replay-2.ensures in
    let r = c.replay.result.house in
    let q = c.replay-2.result.house in
    let s = state_of r in
    let t = state_of q in
    record {
      one = a;
      two = b;
      agreed = λ v w e f.
          agreement d (draft_of r) (draft_of q) _ _ _ _ _ _
          (from_ok (λ x. Ran d c.args.calls.now (draft_of r) (vec_items x) s) (NotRun d (draft_of r) s) _ v e a.run)
          (from_ok (λ x. Ran d c.args.others.now (draft_of q) (vec_items x) t) (NotRun d (draft_of q) t) _ w f b.run);
    }
