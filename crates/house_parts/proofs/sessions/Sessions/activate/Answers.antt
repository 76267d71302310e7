use Rattle.std.proofs.Common.{refl, rules}
use Rattle.house_parts.specs.Holding.{user_of, active_of}
use Rattle.house_parts.proofs.Placing.{user_kept, roles_with}
use Rattle.house_parts.proofs.sessions.Sessions.activate.Goals as goal

pub returns : goal.returns
unfolding user_of active_of
returns c =
    record {
      users = user_kept c.args.self.now.sessions c.args.session (search rules) c.requires.0 _ refl;
      active = roles_with c.args.self.now.sessions c.args.session (search rules) c.requires.0 _ c.args.role c.requires.1 c.insert.ensures.after;
    }
