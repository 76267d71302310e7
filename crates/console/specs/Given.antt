-- What is answered to what the reader gives: a record with its first 40 fields, or a fault.
use Rattle.std.specs.Prelude.{ℕ, min, List, take, Some, Ok, Err, Option, Result}
use Rattle.forms.specs.Fields.{values}
use Rattle.records.specs.declared.field.Field.{Field}
use Rattle.records.specs.declared.record.Record.{Record}
use Rattle.refusals.specs.declared.answer.Answer.{Answer}
use Rattle.refusals.specs.declared.answer.Answer.TheVariants.{Refused}
use Rattle.refusals.specs.declared.refusal.Refusal.{Refusal}
use Rattle.console.specs.Boxes.{Box}
use Rattle.console.specs.Recording.{record_reply, record_box}

-- the values of the fields of a record that are kept
abbrev pub values_of : List Field → Record → List (List ℕ)
values_of kept r = values (take (min r.count 40) kept)

abbrev pub given_reply : Box → List Field → Result Record Refusal → Option Answer
given_reply b kept (Ok r) = record_reply b r.start r.count (values_of kept r)
given_reply b kept (Err g) = Some (Refused g)

abbrev pub given_box : Box → List Field → Result Record Refusal → Box
given_box b kept (Ok r) = record_box b r.start r.count (values_of kept r)
given_box b kept (Err g) = b
