use Rattle.std.proofs.Common.{◌∙◌, ap, rules, refl, tests, arith, ◌-◌}
use Rattle.std.proofs.lemmas.Iterator.{YieldsList-from_range}
use Rattle.std.proofs.lemmas.Iterator.Search.{all_from_yields_List}
use Rattle.search.specs.Below.{all_below}
use Rattle.forms.specs.Spelling.{spelt_at, all_spelt}
use Rattle.forms.proofs.All.{all_is}
use Rattle.forms.proofs.form.Form.is_spelt.Goals as goal

pub returns : goal.returns
unfolding all_spelt
returns c =
    let said = c.args.self.now in
    all_from_yields_List (spelt_at said.kind said.values) _ _ c.all.result c.all.ensures.ran (YieldsList-from_range 0 c.places.result _ refl refl) (λ x b q k. search (rules, tests))
    ∙ all_is (spelt_at said.kind said.values) (c.places.result - 0)
    ∙ ap (all_below (spelt_at said.kind said.values)) (omega (arith, c.places.ensures))
