use Rattle.std.proofs.Common.{length, Some, ap, ◌∙◌, subst, arith}
use Rattle.records.specs.Views.{Gives}
use Rattle.records.proofs.Progress.{line_given, one_line_more, all_lines}
use Rattle.records.proofs.cursor.count_lines.Goals as goal

pub loop-count-preserved : goal.loop-count-preserved
loop-count-preserved c =
    let inv = c.loop-count.invariant in
    let got = c.in-Some.ensures in
    let gives = subst (λ t. Gives t c.loop-count.records.at c.next.new.self.at c.next.new.fields (Some c.in-Some.field-0)) inv.0 got.gives in
    let line = line_given c.args.text.now c.loop-count.records.at c.next.new.self.at c.next.new.fields c.in-Some.field-0 gives in
    (ap (λ r. r.now) got.text ∙ inv.0, omega (arith, line.1.ahead), line.1.within, one_line_more c.args.text.now c.loop-count.records.at c.next.new.self.at c.loop-count.count line.0 line.1 inv.3)

pub returns : goal.returns
returns c =
    let inv = c.loop-count.invariant in
    let end = c.in_default.ensures.gives.0 in
    (c.in_ok-records.ensures.0, all_lines c.args.text.now c.loop-count.records.at c.loop-count.count (omega (arith, end, ap length inv.0)) inv.3)
