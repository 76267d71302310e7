use Rattle.house_parts.specs.Holding.{holder_of}
use Rattle.house_parts.proofs.Placing.{places_none}
use Rattle.house_parts.proofs.leases.Leases.new.Goals as goal

pub returns : goal.returns
unfolding holder_of
returns c = places_none
