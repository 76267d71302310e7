use Rattle.std.proofs.Common.{is_some, rules, tests, ◌∙◌}
use Rattle.std.proofs.lemmas.Iterator.{YieldsList-from_slice}
use Rattle.std.proofs.lemmas.Iterator.Search.{any_from_yields_List}
use Rattle.house_parts.specs.Holding.{user_of}
use Rattle.house_parts.proofs.Placing.{session_taken}
use Rattle.house_parts.proofs.sessions.Sessions.is_any_live.Goals as goal

pub returns : goal.returns
unfolding user_of
returns c =
    any_from_yields_List (λ x. is_some x.user) _ _ _ c.any.ensures.ran (YieldsList-from_slice c.args.self.now.sessions cc) (λ x b q k. search (rules, tests))
    ∙ session_taken c.args.self.now.sessions (search rules)
