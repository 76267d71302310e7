use Rattle.runs.proofs.Leases.{under_lease}
use Rattle.runs.proofs.laws.changes_came_under_lease.Goals as goal

pub returns : goal.returns
returns c = under_lease
