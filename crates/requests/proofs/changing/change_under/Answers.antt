use Rattle.house.specs.Views.{draft_of, state_of}
use Rattle.requests.proofs.Chains.{call_left}
use Rattle.requests.proofs.changing.change_under.Goals as goal

pub returns-in-Assign-clause-after : goal.returns-in-Assign-clause-after
returns-in-Assign-clause-after g c =
    call_left (draft_of c.args.house.now) (state_of c.args.house.now) _ _ c.args.lease.now.numbers c.args.spot c.in-Assign.is _ c.assign.ensures.after

pub returns-in-Revoke-clause-after : goal.returns-in-Revoke-clause-after
returns-in-Revoke-clause-after g c =
    call_left (draft_of c.args.house.now) (state_of c.args.house.now) _ _ c.args.lease.now.numbers c.args.spot c.in-Revoke.is _ c.revoke.ensures.after
