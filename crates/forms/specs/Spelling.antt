-- Which values are well written.
use Rattle.std.specs.Prelude.{ℕ, ◌-◌, Bool, List, length, is_some}
use Rattle.search.specs.Below.{all_below}
use Rattle.values.specs.Names.{spells_name}
use Rattle.values.specs.Numbers.{number_of}
use Rattle.values.specs.Flags.{flag_of}
use Rattle.kinds.specs.Columns.{column_at}
use Rattle.kinds.specs.declared.column.Column.{Column}
use Rattle.kinds.specs.declared.column.Column.TheVariants.{New, Known, Number, Flag}
use Rattle.kinds.specs.declared.kind.Kind.{Kind}
use Rattle.forms.specs.Fields.{value_at_lem}

-- whether a value is written as a column wants: a name, declared or to be declared, a number, or a flag
abbrev pub spelt : Column → List ℕ → Bool
spelt (New t) v = spells_name v
spelt (Known t) v = spells_name v
spelt Number v = is_some (number_of v)
spelt Flag v = is_some (flag_of v)

-- whether the value at a place is written as its column wants
abbrev pub spelt_at : Kind → List (List ℕ) → ℕ → Bool
spelt_at k vs i = spelt (column_at k i) (value_at_lem vs i)

-- whether every value behind the record name is written as its column wants
unfoldable pub all_spelt : Kind → List (List ℕ) → Bool
all_spelt k vs = all_below (spelt_at k vs) (length vs - 1)
