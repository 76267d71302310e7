use Rattle.records.proofs.Scanning.{Sofar}
use Rattle.records.proofs.scan.read_on.Given as goal

abbrev pub invariant-loop-at : goal.invariant-loop-at
invariant-loop-at l = Sofar l.initial.state l.bytes l.at l.state
