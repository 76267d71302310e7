-- The calls that a text makes on the house, and since when.
use Rattle.std.specs.Prelude.{◌≡◌, ℕ, cond, List, [], ◌∷◌, ◌++◌, length, is_ok, Some, None, Option, slice_index_or}
use Rattle.house.specs.Views.{opening}
use Rattle.kinds.specs.Words.{kind_of_lem}
use Rattle.kinds.specs.declared.kind.Kind.{Kind}
use Rattle.kinds.specs.declared.kind.Kind.TheVariants.{Declare, Permission, RolePair, Entry, Relate, Ask}
use Rattle.records.specs.Readings.{Line}
use Rattle.records.specs.Readings.Line.{fields, fault}
use Rattle.refusals.specs.declared.answer.Answer.{Answer}
use Rattle.refusals.specs.declared.answer.Answer.TheVariants.{Accepted, Granted, Denied, Refused}
use Rattle.requests.specs.Calls.{calls_for}
use Rattle.requests.specs.declared.asked.Asked.{Asked}
use Rattle.rules.specs.States.{opened}
use Rattle.rules.specs.declared.call.Call.{Call}
use Rattle.runs.specs.Runs.{final}
use Rattle.console.specs.Boxes.{Box}
use Rattle.console.specs.Recording.{judged, offered}
use Rattle.console.specs.Requests.{asked_of}
use Rattle.console.specs.Texts.{kept_values, line_box}

-- the house was opened, and the calls since led to its state
abbrev pub Reached : Box → List Call → Type 0
Reached b since = b.site.state ≡ final b.site.house (opened b.site.house) since

-- the calls since the last accepted opening, after a request: none after an opening that is accepted
abbrev pub request_calls : Box → List (List ℕ) → Option Asked → List Call → List Call
request_calls b vs None since = cond (is_ok (opening b.site.state (offered b vs))) [] since
request_calls b vs (Some a) since = since ++ calls_for b.site a

-- after a record that no reason from 6 to 10 refuses; table records make no call
abbrev pub done_calls : Box → Kind → List (List ℕ) → List Call → List Call
done_calls b (Declare t) vs since = since
done_calls b Permission vs since = since
done_calls b RolePair vs since = since
done_calls b Entry vs since = since
done_calls b (Relate r) vs since = since
done_calls b (Ask q) vs since = request_calls b vs (asked_of b.names b.draft q vs) since

abbrev pub calls_unless : Answer → List Call → List Call → List Call
calls_unless Accepted since more = more
calls_unless Granted since more = since
calls_unless Denied since more = since
calls_unless (Refused g) since more = since

abbrev pub kind_calls : Box → Option Kind → ℕ → ℕ → List (List ℕ) → List Call → List Call
kind_calls b None at n vs since = since
kind_calls b (Some k) at n vs since = calls_unless (judged b k at n vs) since (done_calls b k vs since)

-- after a line of a text
abbrev pub line_calls : Box → Line → List Call → List Call
line_calls b (fields at fs next) since = kind_calls b (kind_of_lem (slice_index_or (kept_values fs) 0 [])) at (length fs) (kept_values fs) since
line_calls b (fault at bad next) since = since

-- after all lines
abbrev pub text_calls : Box → List Line → List Call → List Call
text_calls b [] since = since
text_calls b (l ∷ ls) since = text_calls (line_box b l) ls (line_calls b l since)
