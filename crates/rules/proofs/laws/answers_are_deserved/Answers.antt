use Rattle.rules.proofs.Deserving.{answers_deserved}
use Rattle.rules.proofs.laws.answers_are_deserved.Goals as goal

pub returns : goal.returns
returns c = answers_deserved
