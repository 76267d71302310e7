use Rattle.std.proofs.Common.{ap, ◌∙◌, arith}
use Rattle.forms.specs.Fields.{Content}
use Rattle.records.specs.Views.{value_of}
use Rattle.forms.proofs.Places.{length_rest, value_here, value_past}
use Rattle.forms.proofs.form.Form.value_at.Goals as goal

pub returns-in-empty : goal.returns-in-empty
returns-in-empty c =
    value_past c.self.inside.fields.now c.args.place _ (ap (λ (f : Content). f.values) c.self.view_is) (omega (arith, c.in-empty.len_below))

pub returns-in-Some : goal.returns-in-Some
returns-in-Some c =
    let fields = c.self.inside.fields.now in
    let found = c.in-Some.ensures.lookup in
    value_here fields c.args.place _ (ap (λ (f : Content). f.values) c.self.view_is) _ _ (c.value.ensures ∙ ap value_of found.1) (omega (arith, length_rest fields, found.3.0))

pub returns-in-None : goal.returns-in-None
returns-in-None c =
    let fields = c.self.inside.fields.now in
    value_past fields c.args.place _ (ap (λ (f : Content). f.values) c.self.view_is) (omega (arith, length_rest fields, c.in-None.ensures.lookup.3))
