use Rattle.std.proofs.Common.{◌≡◌, length, sym, ◌∙◌, inl, arith, rules}
use Rattle.stores.proofs.Pairs.{bounds_false, with_out}
use Rattle.stores.proofs.Rows.{answer_in, answer_out, put_in, exact_in, exact_out}
use Rattle.stores.proofs.bit_rows.BitRowsPairSet.insert.Goals as goal

pub returns-then-left-ge-LEFTS : goal.returns-then-left-ge-LEFTS
returns-then-left-ge-LEFTS c =
    let h = c.if-left-ge-LEFTS.true in
    record { answer = answer_out c.args.self.now.rows c.args.left c.args.right h; after = sym (with_out _ _ _ (bounds_false _ _ (inl h))); exact = exact_out c.args.self.now c.args.left c.args.right h }

pub returns : goal.returns
returns c =
    let rows = c.args.self.now.rows in
    let n : 64 ≡ length rows = search rules in
    record {
      answer = c.insert.ensures.answer ∙ answer_in rows c.args.left c.args.right c.if-left-ge-LEFTS.false;
      after = put_in rows c.args.left c.args.right _ c.if-left-ge-LEFTS.false (omega arith) c.insert.ensures.after;
      exact = exact_in c.args.self.now c.args.left c.args.right _ c.if-left-ge-LEFTS.false c.insert.ensures.exact;
    }
