use Rattle.std.proofs.Common.{ap, ◌∙◌}
use Rattle.console.specs.Boxes.{box_of}
use Rattle.console.specs.Recording.{reply_unless, box_unless, done_reply, done_box}
use Rattle.console.proofs.Fitting.{fitting}
use Rattle.console.proofs.console.Console.take_kind.Goals as goal

pub act-requires : goal.act-requires
act-requires g c = fitting _ _ c.args.form.now.kind c.args.whole.start c.args.whole.count c.args.form.now.values c.requires c.in-Ok.ensures

pub returns-in-Err : goal.returns-in-Err
returns-in-Err g c =
    let b = box_of c.args.self.now in
    let k = c.args.form.now.kind in
    let vs = c.args.form.now.values in
    let e = c.in-Err.ensures in
    record { answer = ap (λ j. reply_unless j (done_reply b k vs)) e; after = ap (λ j. box_unless j b (done_box b k vs)) e }

pub returns-in-Ok-clause-after : goal.returns-in-Ok-clause-after
returns-in-Ok-clause-after g c =
    let b = box_of c.args.self.now in
    c.act.ensures.after ∙ ap (λ j. box_unless j b (done_box b c.args.form.now.kind c.args.form.now.values)) c.in-Ok.ensures
