use Rattle.std.proofs.Common.{sym}
use Rattle.rows.proofs.Bits.{bits_below}
use Rattle.rows.proofs.Numbers.{without_absent}
use Rattle.rows.proofs.Putting.{flip_out}
use Rattle.rows.proofs.row.Row.remove.Goals as goal

pub returns-then-not-contains : goal.returns-then-not-contains
returns-then-not-contains c = let t = c.if-not-contains.ensures in record { answer = t; after = sym (without_absent _ _ (sym t)) }

pub flipped-requires : goal.flipped-requires
flipped-requires c = bits_below c.args.self.now.bits c.args.number (sym c.if-not-contains.ensures)

pub returns : goal.returns
returns c =
    let t = c.if-not-contains.ensures in
    record { answer = t; after = flip_out _ _ _ (bits_below c.args.self.now.bits c.args.number (sym t)) c.flipped.ensures.exact (sym t) }
