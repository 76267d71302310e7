use Rattle.std.proofs.Common.{ap, ◌∙◌, rules}
use Rattle.rules.specs.States.{with_at}
use Rattle.house_parts.specs.Holding.{user_of, active_of}
use Rattle.house_parts.proofs.Placing.{user_set, roles_cleared}
use Rattle.house_parts.proofs.sessions.Sessions.start.Goals as goal

pub returns : goal.returns
unfolding user_of active_of
returns c =
    record {
      users =
          user_set c.args.self.now.sessions c.args.session (search rules) c.requires c.new.result
          ∙ ap (with_at (user_of c.args.self.now) c.args.session) c.new.ensures.user;
      active = roles_cleared c.args.self.now.sessions c.args.session (search rules) c.requires c.new.result c.new.ensures.active;
    }
