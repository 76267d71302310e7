use Rattle.std.proofs.Common.{ap, ◌∙◌}
use Rattle.rules.specs.Judging.{after}
use Rattle.rules.specs.declared.call.Call.TheVariants.{Assign}
use Rattle.replays.specs.Holding.{held_of}
use Rattle.replays.specs.Keeping.{draft_in, state_in}
use Rattle.replays.proofs.Places.{in_some, in_none}
use Rattle.replays.proofs.Tying.{stale, unchanged}
use Rattle.replays.proofs.keeper.Keeper.assign.Goals as goal

pub returns-in_err-lease-clause-after : goal.returns-in_err-lease-clause-after
returns-in_err-lease-clause-after g c =
    let d = draft_in c.args.self.now in
    let s = state_in c.args.self.now in
    let h = held_of c.args.self.now.held in
    let n = in_none _ _ c.get.result c.ok_or.result _ _ c.ok_or.ensures.value c.in_err-lease.was c.get.ensures in
    unchanged d s (Assign c.args.lease c.args.spot) _ ((stale d s h c.args.lease c.args.self.now.tied n).assign c.args.spot)

pub returns-clause-after : goal.returns-clause-after
returns-clause-after g c =
    let d = draft_in c.args.self.now in
    let s = state_in c.args.self.now in
    let e = in_some _ _ c.get.result c.ok_or.result _ _ c.ok_or.ensures.value c.in_ok-lease.was c.get.ensures in
    c.assign.ensures.after ∙ ap (λ k. after d s (Assign k c.args.spot)) e.0
