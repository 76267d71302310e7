use Rattle.std.proofs.Common.{refl, rules}
use Rattle.house_parts.specs.Holding.{user_of, active_of}
use Rattle.house_parts.proofs.Placing.{user_kept, roles_without}
use Rattle.house_parts.proofs.sessions.Sessions.deactivate.Goals as goal

pub returns : goal.returns
unfolding user_of active_of
returns c =
    record {
      users = user_kept c.args.self.now.sessions c.args.session (search rules) c.requires _ refl;
      active = roles_without c.args.self.now.sessions c.args.session (search rules) c.requires _ c.args.role c.remove.ensures.after;
    }
