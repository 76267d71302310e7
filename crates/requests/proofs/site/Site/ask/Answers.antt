use Rattle.std.proofs.Common.{refl, ap, ◌∙◌}
use Rattle.refusals.specs.Said.{said}
use Rattle.requests.specs.Calls.{calls_for}
use Rattle.requests.specs.Sites.{site_of}
use Rattle.requests.specs.declared.asked.Asked.TheVariants.{Start, End, Activate, Drop, CheckAccess, Change, Sense, Clock, Window}
use Rattle.requests.proofs.Leaving.{asked_answer, asked_left, ran_to, check_left, told_to}
use Rattle.requests.proofs.site.Site.ask.Goals as goal

pub returns-in-Start : goal.returns-in-Start
returns-in-Start g c =
    let p = site_of c.args.self.now in
    let w = c.in-Start in
    let a = Start w.session w.user in
    let e = c.start_session.ensures in
    record {
      answer = asked_answer p c.args.asked a w.is _ (c.into.ensures ∙ e.answer);
      after = asked_left p c.args.asked a w.is _ (ran_to p (calls_for p a) _ _ e.same e.after);
    }

pub returns-in-End : goal.returns-in-End
returns-in-End g c =
    let p = site_of c.args.self.now in
    let w = c.in-End in
    let a = End w.session in
    let e = c.end_session.ensures in
    record {
      answer = asked_answer p c.args.asked a w.is _ (c.into-in-End.ensures ∙ e.answer);
      after = asked_left p c.args.asked a w.is _ (ran_to p (calls_for p a) _ _ e.same e.after);
    }

pub returns-in-Activate : goal.returns-in-Activate
returns-in-Activate g c =
    let p = site_of c.args.self.now in
    let w = c.in-Activate in
    let a = Activate w.session w.role in
    let e = c.activate_role.ensures in
    record {
      answer = asked_answer p c.args.asked a w.is _ (c.into-in-Activate.ensures ∙ e.answer);
      after = asked_left p c.args.asked a w.is _ (ran_to p (calls_for p a) _ _ e.same e.after);
    }

pub returns-in-Drop : goal.returns-in-Drop
returns-in-Drop g c =
    let p = site_of c.args.self.now in
    let w = c.in-Drop in
    let a = Drop w.session w.role in
    let e = c.deactivate_role.ensures in
    record {
      answer = asked_answer p c.args.asked a w.is _ (c.into-in-Drop.ensures ∙ e.answer);
      after = asked_left p c.args.asked a w.is _ (ran_to p (calls_for p a) _ _ e.same e.after);
    }

pub returns-in-CheckAccess : goal.returns-in-CheckAccess
returns-in-CheckAccess g c =
    let p = site_of c.args.self.now in
    let w = c.in-CheckAccess in
    let a = CheckAccess w.session w.device w.operation in
    record {
      answer = asked_answer p c.args.asked a w.is _ (c.into-in-CheckAccess.ensures ∙ c.check.ensures);
      after = asked_left p c.args.asked a w.is p (check_left p w.session w.device w.operation);
    }

pub returns-in-Change : goal.returns-in-Change
returns-in-Change g c =
    let p = site_of c.args.self.now in
    let w = c.in-Change in
    let a = Change w.user w.unit w.change w.spot in
    let e = c.change_at.ensures in
    record {
      answer = asked_answer p c.args.asked a w.is _ (c.into-in-Change.ensures ∙ e.answer);
      after = asked_left p c.args.asked a w.is _ (ran_to p (calls_for p a) _ _ e.same e.after);
    }

pub returns-in-Sense : goal.returns-in-Sense
returns-in-Sense g c =
    let p = site_of c.args.self.now in
    let w = c.in-Sense in
    let a = Sense w.condition w.holds in
    let e = c.sense.ensures in
    record {
      answer = asked_answer p c.args.asked a w.is _ (c.into-in-Sense.ensures ∙ ap said e.answer);
      after = asked_left p c.args.asked a w.is _ (told_to p _ _ _ _ _ _ e.after refl refl);
    }

pub returns-in-Clock : goal.returns-in-Clock
returns-in-Clock g c =
    let p = site_of c.args.self.now in
    let w = c.in-Clock in
    let a = Clock w.minute in
    let e = c.set_minute.ensures in
    record {
      answer = asked_answer p c.args.asked a w.is _ (c.into-in-Clock.ensures ∙ ap said e.answer);
      after = asked_left p c.args.asked a w.is _ (told_to p _ _ _ _ _ _ refl e.minute e.windows);
    }

pub returns-in-Window : goal.returns-in-Window
returns-in-Window g c =
    let p = site_of c.args.self.now in
    let w = c.in-Window in
    let a = Window w.condition w.from w.to in
    let e = c.set_window.ensures in
    record {
      answer = asked_answer p c.args.asked a w.is _ (c.into-in-Window.ensures ∙ ap said e.answer);
      after = asked_left p c.args.asked a w.is _ (told_to p _ _ _ _ _ _ refl e.minute e.windows);
    }
