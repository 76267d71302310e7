use Rattle.requests.proofs.Sources.{checks_see_both_lem}
use Rattle.requests.proofs.laws.checks_see_both.Goals as goal

pub returns : goal.returns
returns c = checks_see_both_lem
