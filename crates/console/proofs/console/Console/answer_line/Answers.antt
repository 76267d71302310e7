use Rattle.std.proofs.Common.{◌≡◌, ◌-◌, min, take, sym, ap, ◌∙◌, arith}
use Rattle.forms.specs.Fields.{values}
use Rattle.console.specs.Boxes.{box_of}
use Rattle.console.specs.Given.{given_reply, given_box}
use Rattle.console.specs.Recording.{record_reply, record_box}
use Rattle.console.proofs.console.Console.answer_line.Goals as goal

pub returns-in-Ok : goal.returns-in-Ok
returns-in-Ok g c =
    let b = box_of c.args.self.now in
    let r = c.in-Ok.record in
    let kept = c.args.fields.now in
    let t = c.take.ensures in
    let n : c.kept.result - 0 ≡ min r.count 40 = omega (arith, c.kept.ensures) in
    let e = sym c.in-Ok.is in
    record {
      answer = t.answer ∙ ap (λ m. record_reply b r.start r.count (values (take m kept))) n ∙ ap (given_reply b kept) e;
      after = t.after ∙ ap (λ m. record_box b r.start r.count (values (take m kept))) n ∙ ap (given_box b kept) e;
    }

pub returns-in-Err-clause-after : goal.returns-in-Err-clause-after
returns-in-Err-clause-after g c = ap (given_box (box_of c.args.self.now) c.args.fields.now) (sym c.in-Err.is)
