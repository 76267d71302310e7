use Rattle.std.proofs.Common.{◌≡◌, ◌-◌, ◌*◌, ◌≤◌, length, vec_items, vec_len, vec_capacity}
use Rattle.console.specs.Boxes.{box_of}
use Rattle.console.proofs.Progress.{SoFar}
use Rattle.console.proofs.console.Console.read_text.Given as goal

abbrev pub invariant-loop-reply : goal.invariant-loop-reply
invariant-loop-reply g l =
    (l.records.text.now ≡ l.text)
    × (length l.line ≡ 16)
    × (l.records.at ≤ length l.text)
    × (12 * length l.text ≤ vec_capacity l.answers)
    × (vec_len l.answers ≤ 12 * l.records.at)
    × SoFar l.text l.records.at (box_of l.initial.self) (box_of l.self) (vec_items l.answers)

abbrev pub decreases-loop-reply : goal.decreases-loop-reply
decreases-loop-reply g l = length l.text - l.records.at
