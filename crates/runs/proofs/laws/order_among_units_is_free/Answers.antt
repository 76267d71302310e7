use Rattle.runs.proofs.Ordering.{order}
use Rattle.runs.proofs.laws.order_among_units_is_free.Goals as goal

pub returns : goal.returns
returns c = order
