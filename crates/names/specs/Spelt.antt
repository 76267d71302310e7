-- One register of names.
use Rattle.std.specs.Prelude.{ℕ, List, map}
use Rattle.values.specs.Names.{spelling}
use Rattle.values.specs.declared.name.Name.{Name}

-- names by their bytes
abbrev pub spelt : List Name → List (List ℕ)
spelt ns = map spelling ns
