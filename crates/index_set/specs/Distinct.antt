-- A list in which no two items are the same.
use Rattle.std.specs.Prelude.{Bool, true, not, ◌&&◌, List, [], ◌∷◌}
use Rattle.std.specs.List.{list_all}

-- whether no item is the same as one behind it
abbrev pub is_distinct : {X : Type 0} → (X → X → Bool) → List X → Bool
is_distinct alike [] = true
is_distinct alike (x ∷ xs) = list_all (λ y. not (alike x y)) xs && is_distinct alike xs
