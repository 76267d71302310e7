use Rattle.stores.proofs.Rows.{rows_none}
use Rattle.stores.proofs.bit_rows.BitRows.new.Goals as goal

pub returns : goal.returns
returns c = rows_none c.new-row.result c.new-row.ensures.empty
