use Rattle.std.proofs.Common.{◌++◌, length, drop, ap, ◌∙◌}
use Rattle.console.specs.Boxes.{box_of}
use Rattle.console.specs.Texts.{reply_bytes}
use Rattle.console.proofs.Replies.{answered}
use Rattle.console.proofs.console.Console.reply.Goals as goal

pub returns : goal.returns
returns g c =
    let t = c.in_ok-next.ensures in
    let a = answered _ _ _ (box_of c.args.self.now) _ c.in_ok-next.next t.room t.gives in
    let l = c.answer_line-answer.ensures in
    let w = c.write_reply-written.ensures in
    let p = l.answer ∙ a.reply in
    record {
      text = t.text;
      onward = (t.onward.0, t.onward.1, w.bound);
      step =
          record {
            line = a.line;
            goes = a.goes;
            answer = p;
            box = l.after ∙ a.box;
            written = w.len ∙ ap (λ o. length (reply_bytes o)) p;
            bytes = w.bytes ∙ ap (λ o. reply_bytes o ++ drop (length (reply_bytes o)) c.args.line.now) p;
          };
    }
