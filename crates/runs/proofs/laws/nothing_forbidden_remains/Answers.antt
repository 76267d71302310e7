use Rattle.runs.proofs.Afterwards.{none_afterwards}
use Rattle.runs.proofs.laws.nothing_forbidden_remains.Goals as goal

pub returns : goal.returns
returns c = none_afterwards
