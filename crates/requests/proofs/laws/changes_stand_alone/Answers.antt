use Rattle.requests.proofs.Standing.{changes_stand_alone_lem}
use Rattle.requests.proofs.laws.changes_stand_alone.Goals as goal

pub returns : goal.returns
returns c = changes_stand_alone_lem
