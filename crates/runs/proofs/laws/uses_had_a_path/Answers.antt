use Rattle.runs.proofs.Uses.{uses}
use Rattle.runs.proofs.laws.uses_had_a_path.Goals as goal

pub returns : goal.returns
returns c = uses
