use Rattle.std.proofs.Common.{rules}
use Rattle.house_parts.specs.Holding.{user_of}
use Rattle.house_parts.proofs.Placing.{user_got}
use Rattle.house_parts.proofs.sessions.Sessions.user.Goals as goal

pub returns : goal.returns
unfolding user_of
returns c = user_got c.args.self.now.sessions c.args.session (search rules) c.get.result _ c.get.ensures.lookup (search rules)
