use Rattle.std.proofs.Common.{None, rules}
use Rattle.house_parts.specs.Holding.{holder_of}
use Rattle.house_parts.proofs.Placing.{place_with, place_kept}
use Rattle.house_parts.proofs.leases.Leases.take_back.Goals as goal

pub returns-then-unit-lt-UNITS : goal.returns-then-unit-lt-UNITS
unfolding holder_of
returns-then-unit-lt-UNITS c = place_with c.args.self.now.users c.args.unit None c.if-unit-lt-UNITS.true (search rules)

pub returns-else-unit-lt-UNITS : goal.returns-else-unit-lt-UNITS
unfolding holder_of
returns-else-unit-lt-UNITS c = place_kept c.args.self.now.users c.args.unit c.if-unit-lt-UNITS.false
