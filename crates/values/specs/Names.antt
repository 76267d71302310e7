-- Which bytes spell a name, and what a name spells.
use Rattle.std.specs.Prelude.{◌≡◌, ℕ, Bool, true, false, ◌&&◌, List, length, take, Some, None, Option, nat_le}
use Rattle.std.specs.Str.{bytes_eq}
use Rattle.values.specs.Letters.{letters}
use Rattle.values.specs.declared.name.Name.{Name}

-- 1 to 24 letters, digits or underscores
abbrev pub spells_name : List ℕ → Bool
spells_name s = nat_le 1 (length s) && nat_le (length s) 24 && letters s

abbrev pub spelling : Name → List ℕ
spelling n = take n.len n.bytes

-- the name that the bytes spell, and none where they spell none
abbrev pub Named : List ℕ → Option Name → Type 0
Named s (Some n) = (spells_name s ≡ true) × (spelling n ≡ s)
Named s None = spells_name s ≡ false

abbrev pub same_spelling : Name → Name → Bool
same_spelling a b = bytes_eq (spelling a) (spelling b)
