use Rattle.rowan_cases.proofs.Playing.{cases_hold_lem}
use Rattle.rowan_cases.proofs.cases.cases_hold.Goals as goal

pub returns : goal.returns
returns c = cases_hold_lem
