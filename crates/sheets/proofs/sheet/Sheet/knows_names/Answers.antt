use Rattle.std.proofs.Common.{◌∙◌, ◌-◌, ap, rules, refl, tests, arith}
use Rattle.std.proofs.lemmas.Iterator.{YieldsList-from_range}
use Rattle.std.proofs.lemmas.Iterator.Search.{all_from_yields_List}
use Rattle.forms.proofs.All.{all_is}
use Rattle.names.specs.Spellings.{spellings}
use Rattle.search.specs.Below.{all_below}
use Rattle.sheets.specs.Judging.{known_at, all_named}
use Rattle.sheets.proofs.sheet.Sheet.knows_names.Goals as goal

pub returns : goal.returns
unfolding all_named
returns c =
    let known = known_at (spellings c.args.self.now.names) c.args.form.now.kind c.args.form.now.values in
    all_from_yields_List known _ _ c.all.result c.all.ensures.ran (YieldsList-from_range 0 c.places.result _ refl refl) (λ x b q k. search (rules, tests))
    ∙ all_is known (c.places.result - 0)
    ∙ ap (all_below known) (omega (arith, c.places.ensures))
