use Rattle.rules.proofs.Paths.{by_path}
use Rattle.rules.proofs.laws.granted_by_a_path.Goals as goal

pub returns : goal.returns
returns c = by_path
