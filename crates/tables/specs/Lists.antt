-- A list of which the first places count.
use Rattle.std.specs.Prelude.{◌+◌, slice_set}
use Rattle.tables.specs.declared.items.Items.{Items}

-- the list with one more item
abbrev pub with_item : {X : Type 0} → Items X → X → Items X
with_item l x = record { count = l.count + 1; places = slice_set l.places l.count x }
