use Rattle.std.proofs.Common.{None, rules, tests}
use Rattle.replays.proofs.Places.{nothing_held}
use Rattle.replays.proofs.held.HeldLeases.new.Goals as goal

pub returns : goal.returns
returns c = nothing_held c.from_fn.result (λ u h. let w = c.from_fn.ensures.items.at u None h in search (rules, tests))
