use Rattle.std.proofs.Common.{Some, rules}
use Rattle.house_parts.specs.Holding.{holder_of}
use Rattle.house_parts.proofs.Placing.{place_with}
use Rattle.house_parts.proofs.leases.Leases.give.Goals as goal

pub returns : goal.returns
unfolding holder_of
returns c = place_with c.args.self.now.users c.args.unit (Some c.args.user) c.requires (search rules)
