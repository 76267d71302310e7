use Rattle.std.proofs.Common.{length, Some, ap, ap₂, ◌∙◌}
use Rattle.forms.proofs.Places.{length_values}
use Rattle.forms.specs.Fields.{values}
use Rattle.kinds.specs.Words.{kind_of_lem}
use Rattle.console.specs.Boxes.{box_of}
use Rattle.console.specs.Recording.{kind_box}
use Rattle.console.proofs.console.Console.take.Goals as goal

pub take_kind-requires : goal.take_kind-requires
take_kind-requires g c = ap length c.new.ensures.values ∙ length_values c.args.fields.now ∙ c.requires

pub returns-in-Some-clause-after : goal.returns-in-Some-clause-after
returns-in-Some-clause-after g c =
    let b = box_of c.args.self.now in
    c.take_kind.ensures.after ∙ ap₂ (λ k vs. kind_box b (Some k) c.args.whole.start c.args.whole.count vs) c.new.ensures.kind c.new.ensures.values
    ∙ ap (λ k. kind_box b k c.args.whole.start c.args.whole.count (values c.args.fields.now)) (c.in-Some.ensures ∙ ap kind_of_lem c.record_name.ensures)

pub returns-in-None-clause-after : goal.returns-in-None-clause-after
returns-in-None-clause-after g c =
    ap (λ k. kind_box (box_of c.args.self.now) k c.args.whole.start c.args.whole.count (values c.args.fields.now)) (c.in-None.ensures ∙ ap kind_of_lem c.record_name.ensures)
