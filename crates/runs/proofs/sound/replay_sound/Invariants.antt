use Rattle.std.proofs.Common.{◌≡◌, ◌≤◌, length, take, vec_items, vec_len, vec_capacity}
use Rattle.runs.proofs.Ruling.{SoFar}
use Rattle.runs.proofs.sound.replay_sound.Given as goal

abbrev pub invariant-loop-call : goal.invariant-loop-call
invariant-loop-call g l =
    (vec_len l.history ≡ l.call-index) × (length l.calls ≤ vec_capacity l.history)
    × (g.M.SoundMachine.draft l.machine ≡ g.M.SoundMachine.draft l.initial.machine)
    × (g.M.SoundMachine.sound l.initial.machine → g.M.SoundMachine.sound l.machine)
    × (g.M.SoundMachine.sound l.initial.machine → SoFar (g.M.SoundMachine.draft l.initial.machine) (g.M.SoundMachine.state l.initial.machine) (take l.call-index l.calls) (vec_items l.history) (g.M.SoundMachine.state l.machine))
