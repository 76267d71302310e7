use Rattle.std.proofs.Common.{◌≡◌, ◌-◌, ◌≤◌, length}
use Rattle.records.proofs.Progress.{Sofar}
use Rattle.records.proofs.cursor.count_lines.Given as goal

abbrev pub invariant-loop-count : goal.invariant-loop-count
invariant-loop-count l = (l.records.text.now ≡ l.text) × (l.count ≤ l.records.at) × (l.records.at ≤ length l.text) × Sofar l.text l.records.at l.count

abbrev pub decreases-loop-count : goal.decreases-loop-count
decreases-loop-count l = length l.text - l.records.at
