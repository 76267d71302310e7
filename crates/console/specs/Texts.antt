-- A whole text: its lines one after another.
use Rattle.std.specs.Prelude.{ℕ, List, [], ◌∷◌, ◌++◌, map, length, take, Some, None, Option}
use Rattle.records.specs.Grammar.{Piece}
use Rattle.records.specs.Grammar.Piece.{bare, quoted}
use Rattle.records.specs.Readings.{Line}
use Rattle.records.specs.Readings.Line.{fields, fault}
use Rattle.refusals.specs.declared.answer.Answer.{Answer}
use Rattle.refusals.specs.declared.answer.Answer.TheVariants.{Refused}
use Rattle.refusals.specs.declared.refusal.Refusal.TheVariants.{MalformedRecord}
use Rattle.values.specs.Lines.{line_of}
use Rattle.console.specs.Boxes.{Box}
use Rattle.console.specs.Recording.{record_reply, record_box}

-- the value of a field
abbrev pub value_in : Piece → List ℕ
value_in (bare v at) = v
value_in (quoted v at) = v

-- the values of the fields of a record that are kept
abbrev pub kept_values : List Piece → List (List ℕ)
kept_values fs = map value_in (take 40 fs)

-- what a line is answered: a record by the rules of records, one with a fault by refusal 4 with the place of the byte at fault
abbrev pub line_reply : Box → Line → Option Answer
line_reply b (fields at fs next) = record_reply b at (length fs) (kept_values fs)
line_reply b (fault at bad next) = Some (Refused (MalformedRecord bad))

-- and the box after it
abbrev pub line_box : Box → Line → Box
line_box b (fields at fs next) = record_box b at (length fs) (kept_values fs)
line_box b (fault at bad next) = b

-- the bytes of a reply: its line, or none
abbrev pub reply_bytes : Option Answer → List ℕ
reply_bytes None = []
reply_bytes (Some a) = line_of a

-- the bytes of all replies, in the order of the lines
abbrev pub text_bytes : Box → List Line → List ℕ
text_bytes b [] = []
text_bytes b (l ∷ ls) = reply_bytes (line_reply b l) ++ text_bytes (line_box b l) ls

-- the box after all lines
abbrev pub text_box : Box → List Line → Box
text_box b [] = b
text_box b (l ∷ ls) = text_box (line_box b l) ls
