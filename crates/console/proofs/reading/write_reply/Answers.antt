use Rattle.std.proofs.Common.{subst}
use Rattle.values.specs.Lines.{Written}
use Rattle.console.proofs.Replies.{replied_bytes}
use Rattle.console.proofs.reading.write_reply.Goals as goal

pub returns-in-Some : goal.returns-in-Some
returns-in-Some c =
    let x = subst (λ r. Written c.args.line.now c.in-Some.answer c.write_answer.new.line r) c.unwrap.ensures c.write_answer.ensures in
    let w = replied_bytes c.in-Some.answer c.args.answer c.in-Some.is c.unwrap.result c.args.line.now _ x.1 x.2 in
    record { len = w.0; bound = w.1; bytes = w.2 }
