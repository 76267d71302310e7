use Rattle.std.proofs.Common.{sym, refl, ap, ◌∙◌}
use Rattle.rules.specs.Judging.{judge, after}
use Rattle.replays.specs.Keeping.{draft_in, state_in}
use Rattle.replays.proofs.Looking.{looked}
use Rattle.replays.proofs.acting.KeeperMachine.answer.Goals as goal

pub returns-in-Acquire : goal.returns-in-Acquire
returns-in-Acquire g c =
    let d = draft_in c.args.self.now in
    let s = state_in c.args.self.now in
    let e = sym c.in-Acquire.is in
    let a = c.acquire.ensures in
    record { answer = c.into.ensures ∙ a.answer ∙ ap (judge d s) e; after = a.after ∙ ap (after d s) e; same = a.same }

pub returns-in-Assign : goal.returns-in-Assign
returns-in-Assign g c =
    let d = draft_in c.args.self.now in
    let s = state_in c.args.self.now in
    let e = sym c.in-Assign.is in
    let a = c.assign.ensures in
    record {
      answer = c.into-in-Assign.ensures ∙ a.answer ∙ ap (judge d s) e;
      after = a.after ∙ ap (after d s) e;
      same = a.same;
    }

pub returns-in-Revoke : goal.returns-in-Revoke
returns-in-Revoke g c =
    let d = draft_in c.args.self.now in
    let s = state_in c.args.self.now in
    let e = sym c.in-Revoke.is in
    let a = c.revoke.ensures in
    record { answer = c.into-in-Revoke.ensures ∙ a.answer ∙ ap (judge d s) e; after = a.after ∙ ap (after d s) e; same = a.same }

pub returns-in-Release : goal.returns-in-Release
returns-in-Release g c =
    let d = draft_in c.args.self.now in
    let s = state_in c.args.self.now in
    let e = sym c.in-Release.is in
    let a = c.release.ensures in
    record { answer = c.into-in-Release.ensures ∙ a.answer ∙ ap (judge d s) e; after = a.after ∙ ap (after d s) e; same = a.same }

pub returns-in-Start : goal.returns-in-Start
returns-in-Start g c =
    let d = draft_in c.args.self.now in
    let s = state_in c.args.self.now in
    let e = sym c.in-Start.is in
    let a = c.start_session.ensures in
    record { answer = c.into-in-Start.ensures ∙ a.answer ∙ ap (judge d s) e; after = a.after ∙ ap (after d s) e; same = a.same }

pub returns-in-End : goal.returns-in-End
returns-in-End g c =
    let d = draft_in c.args.self.now in
    let s = state_in c.args.self.now in
    let e = sym c.in-End.is in
    let a = c.end_session.ensures in
    record { answer = c.into-in-End.ensures ∙ a.answer ∙ ap (judge d s) e; after = a.after ∙ ap (after d s) e; same = a.same }

pub returns-in-Activate : goal.returns-in-Activate
returns-in-Activate g c =
    let d = draft_in c.args.self.now in
    let s = state_in c.args.self.now in
    let e = sym c.in-Activate.is in
    let a = c.activate_role.ensures in
    record { answer = c.into-in-Activate.ensures ∙ a.answer ∙ ap (judge d s) e; after = a.after ∙ ap (after d s) e; same = a.same }

pub returns-in-Deactivate : goal.returns-in-Deactivate
returns-in-Deactivate g c =
    let d = draft_in c.args.self.now in
    let s = state_in c.args.self.now in
    let e = sym c.in-Deactivate.is in
    let a = c.deactivate_role.ensures in
    record { answer = c.into-in-Deactivate.ensures ∙ a.answer ∙ ap (judge d s) e; after = a.after ∙ ap (after d s) e; same = a.same }

pub returns-in-Check : goal.returns-in-Check
returns-in-Check g c =
    let d = draft_in c.args.self.now in
    let s = state_in c.args.self.now in
    let e = sym c.in-Check.is in
    record { answer = c.into-in-Check.ensures ∙ c.check_access.ensures c.in-Check.conditions (sym c.new-source.ensures) ∙ ap (judge d s) e; after = looked d s _ _ _ _ c.args.call e; same = refl }
