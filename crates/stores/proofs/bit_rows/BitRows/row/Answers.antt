use Rattle.std.proofs.Common.{sym, ◌∙◌}
use Rattle.stores.proofs.Rows.{row_in, row_out}
use Rattle.stores.proofs.bit_rows.BitRows.row.Goals as goal

pub returns-then-left-lt-LEFTS : goal.returns-then-left-lt-LEFTS
returns-then-left-lt-LEFTS c = sym (row_in c.args.self.now.rows c.args.left c.if-left-lt-LEFTS.true)

pub returns-else-left-lt-LEFTS : goal.returns-else-left-lt-LEFTS
returns-else-left-lt-LEFTS c = c.new.ensures.empty ∙ sym (row_out c.args.self.now.rows c.args.left c.if-left-lt-LEFTS.false)
