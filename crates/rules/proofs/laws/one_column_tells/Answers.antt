use Rattle.rules.proofs.Sounding.{one_column_tells_lem}
use Rattle.rules.proofs.laws.one_column_tells.Goals as goal

pub returns : goal.returns
returns c = one_column_tells_lem
