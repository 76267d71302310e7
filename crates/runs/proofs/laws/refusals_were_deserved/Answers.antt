use Rattle.runs.proofs.Uses.{deserved}
use Rattle.runs.proofs.laws.refusals_were_deserved.Goals as goal

pub returns : goal.returns
returns c = deserved
