use Rattle.assignments.proofs.Spots.{none_assigned}
use Rattle.assignments.proofs.assignments.Assignments.new.Goals as goal

pub returns : goal.returns
returns g c = none_assigned _ _ c.clear.ensures c.clear-2.ensures
