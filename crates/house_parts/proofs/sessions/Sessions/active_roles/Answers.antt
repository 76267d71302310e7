use Rattle.std.proofs.Common.{rules, ◌∙◌}
use Rattle.house_parts.specs.Holding.{active_of}
use Rattle.house_parts.proofs.Placing.{session_in, active_out}
use Rattle.house_parts.proofs.sessions.Sessions.active_roles.Goals as goal

pub returns-in-Some : goal.returns-in-Some
unfolding active_of
returns-in-Some c = (session_in c.args.self.now.sessions c.args.session (search rules) c.in-Some.place c.in-Some.ensures.lookup).1

pub returns-in-None : goal.returns-in-None
unfolding active_of
returns-in-None c = c.new.ensures.empty ∙ active_out c.args.self.now.sessions c.args.session (search rules) c.in-None.ensures.lookup
