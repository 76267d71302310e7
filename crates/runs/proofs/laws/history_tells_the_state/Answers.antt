use Rattle.runs.proofs.Histories.{told_by_history}
use Rattle.runs.proofs.laws.history_tells_the_state.Goals as goal

pub returns : goal.returns
returns c = told_by_history
