use Rattle.house.specs.Views.{opening}
use Rattle.console.specs.Boxes.{box_of}
use Rattle.console.specs.Recording.{numbered}
use Rattle.console.proofs.Refusing.{not_ok, kept_draft}
use Rattle.console.proofs.console.Console.open.Goals as goal

pub returns-in_default : goal.returns-in_default
returns-in_default g c =
    let b = box_of c.args.self.now in
    let d = numbered b.draft c.args.number in
    let a = c.open-answer.ensures in
    let e = kept_draft b d (not_ok _ (opening b.site.state d) a.answer c.in_default.not-Accepted) in
    record { answer = a.answer; after = λ i. record { names = b.names; draft = e i; site = a.after i } }
