-- What the reader returns, in the grammar's words.
use Rattle.std.specs.Prelude.{◌≡◌, ℕ, ◌<◌, ◌≤◌, List, map, length, take, drop, Some, None, Ok, Err, Option, Result}
use Rattle.refusals.specs.declared.refusal.Refusal.{Refusal}
use Rattle.refusals.specs.declared.refusal.Refusal.TheVariants.{TextTooLong, MalformedRecord}
use Rattle.records.specs.declared.cursor.Records.{Records}
use Rattle.records.specs.declared.fault.Fault.{Fault}
use Rattle.records.specs.declared.field.Field.{Field}
use Rattle.records.specs.declared.field.Field.TheVariants.{Bare, Quoted}
use Rattle.records.specs.declared.record.Record.{Record}
use Rattle.records.specs.Grammar.{Piece, Whole, Broken, after_break}
use Rattle.records.specs.Grammar.Piece.{bare, quoted}
use Rattle.records.specs.Readings.{Line, Reads, Reading}
use Rattle.records.specs.Readings.Line.{fields, fault}

abbrev pub value_of : Field → List ℕ
value_of (Bare part at) = part.now
value_of (Quoted part at) = part.now

abbrev pub place_of : Field → ℕ
place_of (Bare part at) = at
place_of (Quoted part at) = at

abbrev pub piece : Field → Piece
piece (Bare part at) = bare part.now at
piece (Quoted part at) = quoted part.now at

-- of the fields fs of a record, the first 40 are kept and all are counted
abbrev pub Keeps : ℕ → List Field → List Piece → Type 0
Keeps count kept fs = (count ≡ length fs) × (map piece (take count kept) ≡ take 40 fs)

-- what is read of a text at the place from: a record, or the byte at fault
abbrev pub ReadFrom : List ℕ → ℕ → List Field → Result Record Fault → Type 0
ReadFrom text from kept (Ok r) = (r.start ≡ from) × (r.next ≤ length text) × ((fs : List Piece) × Keeps r.count kept fs × Whole (length text) (drop from text) fs (drop r.next text))
ReadFrom text from kept (Err e) = (e.at ≤ length text) × Broken (length text) (drop from text) e.at (after_break (drop e.at text))

-- a cursor at the beginning of the text, or refusal 3 where it has more than 32,768 bytes
abbrev pub Admits : List ℕ → Result Records Refusal → Type 0
Admits text (Ok c) = (length text ≤ 32768) × (c.text.now ≡ text) × (c.at ≡ 0)
Admits text (Err e) = (32768 < length text) × (e ≡ TextTooLong)

-- a cursor goes from one place of a text to another behind it, over a line
pub record Goes (text : List ℕ) (at next : ℕ) (line : Line) : Type 0 where
  pub more : at < length text
  pub ahead : at < next
  pub within : next ≤ length text
  pub reads : Reads (length text) (drop at text) line (drop next text)

-- What a cursor at a place gives: the record there with its fields, or refusal 4 with the place of the byte at fault;
-- nothing at the end of the text, and there it stays.
abbrev pub Gives : List ℕ → ℕ → ℕ → List Field → Option (Result Record Refusal) → Type 0
Gives text at next kept None = (length text ≤ at) × (next ≡ at)
Gives text at next kept (Some (Ok r)) = (r.start ≡ at) × (r.next ≡ next) × ((fs : List Piece) × Keeps r.count kept fs × Goes text at next (fields at fs next))
Gives text at next kept (Some (Err e)) = (bad : ℕ) × (e ≡ MalformedRecord bad) × Goes text at next (fault at bad next)

-- the number of lines of the text's reading, or refusal 3
abbrev pub Counted : List ℕ → Result ℕ Refusal → Type 0
Counted text (Ok n) = (length text ≤ 32768) × ((ls : List Line) × Reading text ls × (n ≡ length ls))
Counted text (Err e) = (32768 < length text) × (e ≡ TextTooLong)
