use Rattle.std.proofs.Common.{◌≡◌, ◌-◌, length}
use Rattle.fields.proofs.show_text.Given as goal

abbrev pub invariant-loop-line : goal.invariant-loop-line
invariant-loop-line g l = length l.fields ≡ 40

abbrev pub decreases-loop-line : goal.decreases-loop-line
decreases-loop-line g l = length l.records.text.now - l.records.at
