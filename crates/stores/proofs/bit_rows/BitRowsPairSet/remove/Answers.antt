use Rattle.std.proofs.Common.{◌≡◌, length, sym, ap, ◌∙◌, arith, rules}
use Rattle.rows.specs.Numbers.{no_numbers}
use Rattle.stores.proofs.Pairs.{without_absent}
use Rattle.stores.proofs.Rows.{row_in, row_out, taken_out}
use Rattle.stores.proofs.bit_rows.BitRowsPairSet.remove.Goals as goal

pub returns-then-left-ge-LEFTS : goal.returns-then-left-ge-LEFTS
unfolding no_numbers
returns-then-left-ge-LEFTS c =
    let o = ap (λ s. s c.args.right) (row_out c.args.self.now.rows c.args.left c.if-left-ge-LEFTS.true) in
    record { answer = sym o; after = sym (without_absent _ _ _ o) }

pub returns : goal.returns
returns c =
    let rows = c.args.self.now.rows in
    let n : 64 ≡ length rows = search rules in
    record {
      answer = c.remove.ensures.answer ∙ ap (λ s. s c.args.right) (sym (row_in rows c.args.left c.if-left-ge-LEFTS.false));
      after = taken_out rows c.args.left c.args.right _ c.if-left-ge-LEFTS.false (omega arith) c.remove.ensures.after;
    }
