-- A writer of texts, and that what it writes reads back.
use Rattle.std.specs.Prelude.{◌≡◌, ℕ, List, [], ◌∷◌, ◌++◌, map, Some, None, Option}
use Rattle.std.specs.List.{AllByRecursion}
use Rattle.records.specs.Grammar.{Piece, Plain, Doubled}
use Rattle.records.specs.Grammar.Piece.{bare, quoted}
use Rattle.records.specs.Readings.{Line, Reading}
use Rattle.records.specs.Readings.Line.{fields, fault}

-- a field to be written: its value, bare or in quotes
pub data Entry : Type 0 where
  as_is : List ℕ → Entry
  in_quotes : List ℕ → Entry

-- a value that may stand as it is, or in quotes
abbrev pub Fit : Entry → Type 0
Fit (as_is v) = AllByRecursion Plain v
Fit (in_quotes v) = Doubled v

abbrev pub write_field : Entry → List ℕ
write_field (as_is v) = v
write_field (in_quotes v) = 34 ∷ (v ++ 34 ∷ [])

-- a record is its first field and the others
abbrev pub write_record : Entry → List Entry → List ℕ
write_record e [] = write_field e ++ 13 ∷ 10 ∷ []
write_record e (f ∷ fs) = write_field e ++ 44 ∷ write_record f fs

abbrev pub write_text : List (Entry × List Entry) → List ℕ
write_text [] = []
write_text (r ∷ rs) = write_record r.0 r.1 ++ write_text rs

abbrev pub FitRecord : Entry × List Entry → Type 0
FitRecord r = Fit r.0 × AllByRecursion Fit r.1

-- what a line says, wherever it stands: the fields of a record, and nothing of a fault
abbrev pub entry : Piece → Entry
entry (bare v at) = as_is v
entry (quoted v at) = in_quotes v

abbrev pub content : Line → Option (List Entry)
content (fields at fs next) = Some (map entry fs)
content (fault at bad next) = None

-- each text that is written from fields that fit reads back to those fields, record by record, without a fault
abbrev pub EveryWrittenTextReadsBack : Type 0
EveryWrittenTextReadsBack = (rs : List (Entry × List Entry)) → AllByRecursion FitRecord rs → (ls : List Line) → Reading (write_text rs) ls → map content ls ≡ map (λ r. Some (r.0 ∷ r.1)) rs
