use Rattle.std.proofs.Common.{◌∙◌, ◌-◌, sym, ap}
use Rattle.forms.specs.Fields.{Content}
use Rattle.forms.proofs.Places.{length_values}
use Rattle.std.proofs.Common.{length}
use Rattle.forms.proofs.form.Form.places.Goals as goal

pub returns : goal.returns
returns c = c.saturating_sub.ensures ∙ ap (λ n. n - 1) (sym (length_values c.self.inside.fields.now)) ∙ ap (λ (f : Content). length f.values - 1) c.self.view_is
