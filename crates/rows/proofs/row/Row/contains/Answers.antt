use Rattle.std.proofs.Common.{arith}
use Rattle.std.proofs.lemmas.Bool.Decides.{nat_tests}
use Rattle.rows.proofs.Bits.{bits_test, bits_past}
use Rattle.rows.proofs.row.Row.contains.Goals as goal

pub returns-then-number-lt-NUMBERS : goal.returns-then-number-lt-NUMBERS
returns-then-number-lt-NUMBERS c = let t = bits_test c.args.self.bits c.args.number c.if-number-lt-NUMBERS.true in grind (arith, nat_tests)

pub returns-else-number-lt-NUMBERS : goal.returns-else-number-lt-NUMBERS
returns-else-number-lt-NUMBERS c = let p = bits_past c.args.self.bits c.args.number c.if-number-lt-NUMBERS.false in grind (arith, nat_tests)
