use Rattle.std.proofs.Common.{◌≡◌, ◌-◌, length}
use Rattle.two_readers.proofs.read_records.Given as goal

abbrev pub invariant-loop-line : goal.invariant-loop-line
invariant-loop-line l = length l.fields ≡ 40

abbrev pub decreases-loop-line : goal.decreases-loop-line
decreases-loop-line l = length l.records.text.now - l.records.at
