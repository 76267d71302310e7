use Rattle.runs.proofs.Ruling.{law}
use Rattle.runs.proofs.laws.law_of_runs.Goals as goal

pub returns : goal.returns
returns c = law
