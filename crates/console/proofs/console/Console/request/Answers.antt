use Rattle.std.proofs.Common.{ap, ◌∙◌}
use Rattle.house.specs.Views.{opening}
use Rattle.kinds.specs.declared.kind.Kind.TheVariants.{Ask}
use Rattle.refusals.specs.Said.{said}
use Rattle.sheets.specs.Numbers.{number_at}
use Rattle.console.specs.Boxes.{box_of}
use Rattle.console.specs.Recording.{numbered, opening_box, request_answer, request_box}
use Rattle.console.proofs.Tables.{opens}
use Rattle.console.proofs.console.Console.request.Goals as goal

pub returns-in-None : goal.returns-in-None
returns-in-None g c =
    let b = box_of c.args.self.now in
    let vs = c.args.form.now.values in
    let a = c.open.ensures in
    let n = c.number-number.ensures ∙ ap (λ k. number_at b.names k vs 0) (c.requires ∙ ap Ask (opens b.names b.draft vs c.args.request c.in-None.ensures)) in
    let e = c.in-None.ensures in
    record {
      answer = a.answer ∙ ap (λ k. said (opening b.site.state (numbered b.draft k))) n ∙ ap (request_answer b vs) e;
      after = a.after ∙ ap (λ k. opening_box b (numbered b.draft k)) n ∙ ap (request_box b vs) e;
    }

pub returns-in-Some-clause-after : goal.returns-in-Some-clause-after
returns-in-Some-clause-after g c =
    let b = box_of c.args.self.now in
    ap (λ x. record { names = b.names; draft = b.draft; site = x }) c.ask.ensures.after ∙ ap (request_box b c.args.form.now.values) c.in-Some.ensures
