-- How a request is answered, and what it leaves.
use Rattle.std.specs.Prelude.{cond, ◌&&◌, List, [], ◌∷◌, is_ok}
use Rattle.refusals.specs.Said.{said}
use Rattle.conditions.specs.Clocks.{moved}
use Rattle.conditions.specs.Limits.{is_minute, is_window, accepted_if}
use Rattle.house.specs.Views.{opening}
use Rattle.refusals.specs.declared.answer.Answer.{Answer}
use Rattle.refusals.specs.declared.answer.Answer.TheVariants.{Accepted, Granted, Denied, Refused}
use Rattle.rules.specs.States.{opened}
use Rattle.rules.specs.declared.call.Call.{Call}
use Rattle.rules.specs.declared.call.Event.{Event}
use Rattle.runs.specs.Runs.{final, log}
use Rattle.tables.specs.declared.draft.Draft.{Draft}
use Rattle.requests.specs.Calls.{calls_for}
use Rattle.requests.specs.Sites.{Premises, is_sensed, is_timed, reported, given_window}
use Rattle.requests.specs.declared.asked.Asked.{Asked}
use Rattle.requests.specs.declared.asked.Asked.TheVariants.{Start, End, Activate, Drop, CheckAccess, Change, Sense, Clock, Window}

-- the first answer where it is a refusal, else the second
abbrev pub or_refused : Answer → Answer → Answer
or_refused Accepted b = b
or_refused Granted b = b
or_refused Denied b = b
or_refused (Refused g) b = Refused g

-- the first refusal of a history, else its last answer
abbrev pub outcome : List Event → Answer
outcome [] = Accepted
outcome (e ∷ []) = e.answer
outcome (e ∷ f ∷ h) = or_refused e.answer (outcome (f ∷ h))

-- what a request's calls come to
abbrev pub told_by_calls : Premises → Asked → Answer
told_by_calls p a = outcome (log p.house p.state (calls_for p a))

-- how a request is answered
abbrev pub answer_to : Premises → Asked → Answer
answer_to p (Start k w) = told_by_calls p (Start k w)
answer_to p (End k) = told_by_calls p (End k)
answer_to p (Activate k r) = told_by_calls p (Activate k r)
answer_to p (Drop k r) = told_by_calls p (Drop k r)
answer_to p (CheckAccess k v o) = told_by_calls p (CheckAccess k v o)
answer_to p (Change w u way x) = told_by_calls p (Change w u way x)
answer_to p (Sense n b) = said (accepted_if (is_sensed n))
answer_to p (Clock m) = said (accepted_if (is_minute m))
answer_to p (Window n from to) = said (accepted_if (is_timed n && is_window from to))

-- the site after calls on its house
abbrev pub ran : Premises → List Call → Premises
ran p calls = record { house = p.house; state = final p.house p.state calls; board = p.board; minute = p.minute; windows = p.windows }

-- the site after a request
abbrev pub after_asked : Premises → Asked → Premises
after_asked p (Start k w) = ran p (calls_for p (Start k w))
after_asked p (End k) = ran p (calls_for p (End k))
after_asked p (Activate k r) = ran p (calls_for p (Activate k r))
after_asked p (Drop k r) = ran p (calls_for p (Drop k r))
after_asked p (CheckAccess k v o) = ran p (calls_for p (CheckAccess k v o))
after_asked p (Change w u way x) = ran p (calls_for p (Change w u way x))
after_asked p (Sense n b) = record { house = p.house; state = p.state; board = reported p.board n b; minute = p.minute; windows = p.windows }
after_asked p (Clock m) = record { house = p.house; state = p.state; board = p.board; minute = moved p.minute m; windows = p.windows }
after_asked p (Window n from to) = record { house = p.house; state = p.state; board = p.board; minute = p.minute; windows = given_window p.windows n from to }

-- the site after an opening with the draft d: as before where that is refused
abbrev pub after_open : Premises → Draft → Premises
after_open p d =
    cond (is_ok (opening p.state d))
    (record { house = d; state = opened d; board = p.board; minute = p.minute; windows = p.windows })
    p
