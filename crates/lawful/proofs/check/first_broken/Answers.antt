use Rattle.std.proofs.Common.{is_some, sym, ◌∙◌, rules, tests}
use Rattle.std.proofs.lemmas.Iterator.{YieldsList-from_slice}
use Rattle.std.proofs.lemmas.Iterator.Search.{find_from_yields_List}
use Rattle.lawful.specs.Breaking.{breach_of}
use Rattle.lawful.specs.Checking.{all_rules}
use Rattle.lawful.proofs.Answering.{broken_found}
use Rattle.lawful.proofs.check.first_broken.Goals as goal

pub returns : goal.returns
returns c =
    let d = c.args.draft.now in
    let found = find_from_yields_List (λ r. is_some (breach_of d r)) _ _ c.find.result c.find.ensures.ran (YieldsList-from_slice all_rules cc) (λ x b q k. search (rules, tests)) in
    c.copied.ensures ∙ found ∙ sym (broken_found d all_rules)
