use Rattle.std.proofs.Common.{sym, ◌∙◌, arith}
use Rattle.std.proofs.lemmas.Bool.Decides.{nat_tests}
use Rattle.rows.proofs.Numbers.{with_out, with_there}
use Rattle.rows.proofs.Putting.{flip_in, row_out, row_there, row_absent}
use Rattle.rows.proofs.row.Row.insert.Goals as goal
use Rattle.rows.proofs.row.Row.insert.Goals.{then-number-ge-NUMBERS-via-then-number-ge-NUMBERS, then-number-ge-NUMBERS-via-else-number-ge-NUMBERS+then-contains}

pub returns-then-number-ge-NUMBERS : goal.returns-then-number-ge-NUMBERS
returns-then-number-ge-NUMBERS c =
    elim c.then-number-ge-NUMBERS.branch [
      | then-number-ge-NUMBERS-via-then-number-ge-NUMBERS w ↦
          let h = w.if-number-ge-NUMBERS.true in
          record { answer = grind (arith, nat_tests); after = sym (with_out _ _ h); exact = sym (row_out _ _ h) }
      | then-number-ge-NUMBERS-via-else-number-ge-NUMBERS+then-contains w ↦
          let t = w.if-contains.ensures in
          record { answer = grind (arith, nat_tests); after = sym (with_there _ _ (sym t)); exact = sym (row_there _ _ (sym t)) }
    ]

pub returns : goal.returns
returns c =
    let t = c.if-contains.ensures in
    let h = c.if-number-ge-NUMBERS.false in
    record { answer = grind (arith, nat_tests); after = flip_in _ _ _ h c.flipped.ensures.exact (sym t); exact = c.flipped.ensures.exact ∙ sym (row_absent _ _ h (sym t)) }
