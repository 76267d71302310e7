-- The reading of a whole text: its records and faults from the first to the last.
use Rattle.std.specs.Prelude.{◌≡◌, ℕ, ◌<◌, List, [], ◌∷◌, length}
use Rattle.records.specs.Grammar.{Piece, Left, Whole, Broken}

pub data Line : Type 0 where
  -- a record: the place of its first byte, all its fields, and the place where the next one begins
  fields : ℕ → List Piece → ℕ → Line
  -- a record with a fault: the places of its first byte, of the byte at fault, and of where reading goes on
  fault : ℕ → ℕ → ℕ → Line

-- of a text of n bytes, s begins with the line, and after is left behind it
abbrev pub Reads : ℕ → List ℕ → Line → List ℕ → Type 0
Reads n s (fields at fs next) after = Left n s at × Left n after next × Whole n s fs after
Reads n s (fault at bad next) after = Left n s at × Left n after next × Broken n s bad after

-- of a text of n bytes, the lines are those of what is left of it, s
abbrev pub Lines : ℕ → List ℕ → List Line → Type 0
Lines n s [] = s ≡ []
Lines n s (l ∷ ls) = (0 < length s) × ((after : List ℕ) × Reads n s l after × Lines n after ls)

abbrev pub Reading : List ℕ → List Line → Type 0
Reading text ls = Lines (length text) text ls

abbrev pub EveryTextHasOneReading : Type 0
EveryTextHasOneReading = (text : List ℕ) → (ls : List Line) × Reading text ls × ((ms : List Line) → Reading text ms → ls ≡ ms)
