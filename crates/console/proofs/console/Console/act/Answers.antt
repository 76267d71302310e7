use Rattle.std.proofs.Common.{sym, ap, ◌∙◌}
use Rattle.console.specs.Boxes.{box_of}
use Rattle.console.specs.Recording.{done_reply, done_box, tables_after}
use Rattle.console.proofs.Tables.{table_reply, table_box}
use Rattle.console.proofs.console.Console.act.Goals as goal

pub returns-in-Ask-clause-after : goal.returns-in-Ask-clause-after
returns-in-Ask-clause-after g c = c.request.ensures.after ∙ ap (λ k. done_box (box_of c.args.self.now) k c.args.form.now.values) c.in-Ask.ensures

pub returns-in_default : goal.returns-in_default
returns-in_default g c =
    let b = box_of c.args.self.now in
    let a = c.apply.ensures in
    let vs = c.args.form.now.values in
    record {
      answer = table_reply b vs c.kind.result c.in_default.not-Ask ∙ ap (λ k. done_reply b k vs) c.kind.ensures;
      after = (λ i. record { names = a.names i; draft = a.draft i; site = b.site }) ∙ sym (ap (λ k. tables_after b k vs) c.kind.ensures) ∙ table_box b vs c.kind.result c.in_default.not-Ask ∙ ap (λ k. done_box b k vs) c.kind.ensures;
    }
