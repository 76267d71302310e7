use Rattle.std.proofs.Common.{◌≡◌, rules}
use Rattle.search.proofs.Finds.{pair_words}
use Rattle.lawful.specs.Breaking.{breach_of, breaks, rows_of, columns_of}
use Rattle.lawful.proofs.Answering.{breach_words}
use Rattle.lawful.proofs.breach.first_breach.Goals as goal

pub returns : goal.returns
returns c =
    let d = c.args.draft.now in
    let r = c.args.rule in
    let e : c.first_hit.result ≡ breach_of d r = search rules in
    record { exact = e; first = pair_words (breaks d r) (rows_of r) (columns_of r) _ e; words = breach_words d r _ e }
