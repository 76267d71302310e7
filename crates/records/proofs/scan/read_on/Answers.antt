use Rattle.records.proofs.Scanning.{goes_on}
use Rattle.records.proofs.scan.read_on.Goals as goal

pub loop-at-preserved : goal.loop-at-preserved
loop-at-preserved c = goes_on c.loop-at.invariant c.in-On.next c.loop-at-test.true c.in-On.ensures
