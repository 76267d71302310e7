use Rattle.runs.proofs.Counting.{counts}
use Rattle.runs.proofs.laws.counts_add_up.Goals as goal

pub returns : goal.returns
returns c = counts
