use Rattle.std.proofs.Common.{◌≡◌, ap, ◌∙◌, rules, tests}
use Rattle.std.specs.Option.{option_map}
use Rattle.std.specs.Str.{bytes_eq}
use Rattle.std.proofs.lemmas.Iterator.{YieldsList-from_slice}
use Rattle.std.proofs.lemmas.Iterator.Search.{find_from_yields_List}
use Rattle.kinds.proofs.Finding.{find_listed}
use Rattle.kinds.proofs.words.look_up.Goals as goal

pub returns : goal.returns
returns c =
    let found = find_from_yields_List (λ e. bytes_eq c.args.word.now e.0.now) _ _ c.find.result c.find.ensures.ran (YieldsList-from_slice c.args.table.now cc) (λ x b q k. search (rules, tests)) in
    let e : c.map.result ≡ option_map (λ e. e.1) (option_map (λ e. e.now) c.find.result) = search (rules, tests) in
    e ∙ ap (option_map (λ e. e.1)) found ∙ find_listed c.args.table.now c.args.word.now
