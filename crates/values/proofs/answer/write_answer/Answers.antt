use Rattle.std.proofs.Common.{◌∷◌, ◌++◌, codes}
use Rattle.values.specs.Lines.{line_break}
use Rattle.values.proofs.Refusing.{line_one, line_two, written}
use Rattle.values.proofs.answer.write_answer.Goals as goal

pub returns-then-code-lt10 : goal.returns-then-code-lt10
returns-then-code-lt10 c =
    written c.args.line.now c.put-then-code-lt10.new.line (codes "refused," ++ (c.digit.result ∷ line_break)) c.args.answer c.in-Refused.refusal c.put-then-code-lt10.result
    c.in-Refused.is c.if-line-lt-LINE_LENGTH.false c.put-then-code-lt10.ensures.len c.put-then-code-lt10.ensures.line
    (line_one c.in-Refused.refusal c.code-code.result c.code-code.ensures c.digit.result c.if-code-lt10.true c.digit.ensures)

pub returns-else-code-lt10 : goal.returns-else-code-lt10
returns-else-code-lt10 c =
    written c.args.line.now c.put-else-code-lt10.new.line (codes "refused," ++ (c.digit-else-code-lt10.result ∷ c.digit-else-code-lt10-2.result ∷ line_break)) c.args.answer c.in-Refused.refusal c.put-else-code-lt10.result
    c.in-Refused.is c.if-line-lt-LINE_LENGTH.false c.put-else-code-lt10.ensures.len c.put-else-code-lt10.ensures.line
    (line_two c.in-Refused.refusal c.code-code.result c.code-code.ensures c.digit-else-code-lt10.result c.digit-else-code-lt10-2.result c.if-code-lt10.false c.digit-else-code-lt10.ensures c.digit-else-code-lt10-2.ensures)
