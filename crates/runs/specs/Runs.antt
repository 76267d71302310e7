-- A run: calls one after another, oldest first, with what they are answered and the state they lead to.
use Rattle.std.specs.Prelude.{List, [], ◌∷◌}
use Rattle.tables.specs.declared.draft.Draft.{Draft}
use Rattle.rules.specs.Judging.{judge, after}
use Rattle.rules.specs.States.{State}
use Rattle.rules.specs.declared.call.Call.{Call}
use Rattle.rules.specs.declared.call.Event.{Event}

-- the state after the calls
abbrev pub final : Draft → State → List Call → State
final d s [] = s
final d s (c ∷ cs) = final d (after d s c) cs

-- the calls with their answers
abbrev pub log : Draft → State → List Call → List Event
log d s [] = []
log d s (c ∷ cs) = record { call = c; answer = judge d s c } ∷ log d (after d s c) cs

-- the calls of a history
abbrev pub calls_in : List Event → List Call
calls_in [] = []
calls_in (e ∷ h) = e.call ∷ calls_in h
