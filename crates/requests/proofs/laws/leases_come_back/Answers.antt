use Rattle.requests.proofs.Standing.{leases_come_back_lem}
use Rattle.requests.proofs.laws.leases_come_back.Goals as goal

pub returns : goal.returns
returns c = leases_come_back_lem
