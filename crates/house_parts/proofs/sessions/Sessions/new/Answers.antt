use Rattle.std.proofs.Common.{ap, ◌∙◌, replicate}
use Rattle.house_parts.specs.Holding.{place_of, user_of, active_of}
use Rattle.house_parts.proofs.Placing.{places_none, rows_none}
use Rattle.house_parts.proofs.sessions.Sessions.new.Goals as goal

pub returns : goal.returns
unfolding user_of active_of
returns c = record { users = ap (λ u. place_of (replicate 16 u)) c.new.ensures.user ∙ places_none; active = rows_none c.new.result.active c.new.ensures.active }
