use Rattle.replays.proofs.Tying.{tie_none}
use Rattle.replays.proofs.keeper.Keeper.new.Goals as goal

pub invariant_of-result : goal.invariant_of-result
invariant_of-result g c = record { tied = tie_none _ _ _ c.requires c.new.ensures }
