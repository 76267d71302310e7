-- What one record is answered, and what it does to the box.
use Rattle.std.specs.Prelude.{ℕ, cond, List, [], is_ok, Some, None, Option, slice_index_or}
use Rattle.refusals.specs.Said.{said}
use Rattle.drafting.specs.Effects.{names_after, draft_after}
use Rattle.house.specs.Views.{opening}
use Rattle.kinds.specs.Words.{kind_of_lem}
use Rattle.kinds.specs.declared.kind.Kind.{Kind}
use Rattle.kinds.specs.declared.kind.Kind.TheVariants.{Declare, Permission, RolePair, Entry, Relate, Ask}
use Rattle.kinds.specs.declared.kind.Request.TheVariants.{Open}
use Rattle.refusals.specs.declared.answer.Answer.{Answer}
use Rattle.refusals.specs.declared.answer.Answer.TheVariants.{Accepted, Granted, Denied, Refused}
use Rattle.refusals.specs.declared.refusal.Refusal.TheVariants.{UnknownRecord}
use Rattle.requests.specs.Answering.{answer_to, after_asked, after_open}
use Rattle.requests.specs.declared.asked.Asked.{Asked}
use Rattle.rules.specs.Judging.{first_reason}
use Rattle.sheets.specs.Judging.{record_tests}
use Rattle.sheets.specs.Numbers.{number_at}
use Rattle.tables.specs.declared.draft.Draft.{Draft}
use Rattle.console.specs.Boxes.{Box}
use Rattle.console.specs.Requests.{asked_of}

-- the draft under another house number
abbrev pub numbered : Draft → ℕ → Draft
numbered d n = record d { number = n }

-- the draft that a record open opens the house with
abbrev pub offered : Box → List (List ℕ) → Draft
offered b vs = numbered b.draft (number_at b.names (Ask Open) vs 0)

-- an opening with the draft d: where it is accepted, the draft keeps the number it was opened with
abbrev pub opening_box : Box → Draft → Box
opening_box b d = record { names = b.names; draft = cond (is_ok (opening b.site.state d)) d b.draft; site = after_open b.site d }

-- a request, by what it asks of the site; nothing is an opening
abbrev pub request_answer : Box → List (List ℕ) → Option Asked → Answer
request_answer b vs None = said (opening b.site.state (offered b vs))
request_answer b vs (Some a) = answer_to b.site a

abbrev pub request_box : Box → List (List ℕ) → Option Asked → Box
request_box b vs None = opening_box b (offered b vs)
request_box b vs (Some a) = record { names = b.names; draft = b.draft; site = after_asked b.site a }

-- what a record that is not refused answers: a table record nothing, a request its answer
abbrev pub done_reply : Box → Kind → List (List ℕ) → Option Answer
done_reply b (Declare t) vs = None
done_reply b Permission vs = None
done_reply b RolePair vs = None
done_reply b Entry vs = None
done_reply b (Relate r) vs = None
done_reply b (Ask q) vs = Some (request_answer b vs (asked_of b.names b.draft q vs))

-- the box after a table record
abbrev pub tables_after : Box → Kind → List (List ℕ) → Box
tables_after b k vs = record { names = names_after b.names k vs; draft = draft_after b.names b.draft k vs; site = b.site }

-- and what it leaves
abbrev pub done_box : Box → Kind → List (List ℕ) → Box
done_box b (Declare t) vs = tables_after b (Declare t) vs
done_box b Permission vs = tables_after b Permission vs
done_box b RolePair vs = tables_after b RolePair vs
done_box b Entry vs = tables_after b Entry vs
done_box b (Relate r) vs = tables_after b (Relate r) vs
done_box b (Ask q) vs = request_box b vs (asked_of b.names b.draft q vs)

-- a record of the kind k at the place at, with n fields, judged by the reasons 6 to 10
abbrev pub judged : Box → Kind → ℕ → ℕ → List (List ℕ) → Answer
judged b k at n vs = first_reason (record_tests b.names b.draft k at n vs) Accepted

-- the reply where no such reason applies, else the refusal
abbrev pub reply_unless : Answer → Option Answer → Option Answer
reply_unless Accepted r = r
reply_unless Granted r = Some Granted
reply_unless Denied r = Some Denied
reply_unless (Refused g) r = Some (Refused g)

-- the box that is left where none applies, else the box as it was
abbrev pub box_unless : Answer → Box → Box → Box
box_unless Accepted b c = c
box_unless Granted b c = b
box_unless Denied b c = b
box_unless (Refused g) b c = b

-- a record, by the kind that its first field names
abbrev pub kind_reply : Box → Option Kind → ℕ → ℕ → List (List ℕ) → Option Answer
kind_reply b None at n vs = Some (Refused (UnknownRecord at))
kind_reply b (Some k) at n vs = reply_unless (judged b k at n vs) (done_reply b k vs)

abbrev pub kind_box : Box → Option Kind → ℕ → ℕ → List (List ℕ) → Box
kind_box b None at n vs = b
kind_box b (Some k) at n vs = box_unless (judged b k at n vs) b (done_box b k vs)

-- what a record at a place, of n fields of which vs are the values of those kept, is answered; nothing where it has no line
abbrev pub record_reply : Box → ℕ → ℕ → List (List ℕ) → Option Answer
record_reply b at n vs = kind_reply b (kind_of_lem (slice_index_or vs 0 [])) at n vs

-- and the box after it
abbrev pub record_box : Box → ℕ → ℕ → List (List ℕ) → Box
record_box b at n vs = kind_box b (kind_of_lem (slice_index_or vs 0 [])) at n vs
