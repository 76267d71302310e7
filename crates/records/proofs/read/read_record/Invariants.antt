use Rattle.std.proofs.Common.{◌≡◌, ◌-◌, ◌≤◌, List, length, drop}
use Rattle.records.specs.Grammar.{Piece, Commas}
use Rattle.records.specs.Views.{Keeps}
use Rattle.records.proofs.read.read_record.Given as goal

abbrev pub invariant-loop-cut : goal.invariant-loop-cut
invariant-loop-cut l = (l.at ≤ length l.text) × (l.count ≤ l.at) × (length l.fields ≡ 40) × ((fs : List Piece) × Keeps l.count l.fields fs × Commas (length l.text) (drop l.from l.text) fs (drop l.at l.text))

abbrev pub decreases-loop-cut : goal.decreases-loop-cut
decreases-loop-cut l = length l.text - l.at
