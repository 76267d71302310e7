-- What numbers the fields of a record say. The names are given table by table, each list in order of declaration.
use Rattle.std.specs.Prelude.{ℕ, ◌+◌, List, Some, None, Option}
use Rattle.forms.specs.Fields.{value_at_lem, written_number}
use Rattle.index_set.specs.Found.{place_of}
use Rattle.kinds.specs.Columns.{column_at, permission_place_lem}
use Rattle.kinds.specs.declared.column.Column.{Column}
use Rattle.kinds.specs.declared.column.Column.TheVariants.{New, Known, Number, Flag}
use Rattle.kinds.specs.declared.column.NameTable.{NameTable}
use Rattle.kinds.specs.declared.kind.Kind.{Kind}
use Rattle.std.specs.Str.{bytes_eq}
use Rattle.tables.specs.Drafts.{permission_of}
use Rattle.tables.specs.declared.draft.Draft.{Draft}

-- the names of each table
abbrev pub Lists : Type 0
Lists = NameTable → List (List ℕ)

abbrev pub or_zero : Option ℕ → ℕ
or_zero (Some n) = n
or_zero None = 0

-- the number of the name that a value is, in a table; none where the table lacks it
abbrev pub named : Lists → NameTable → List ℕ → Option ℕ
named ls t v = place_of bytes_eq (ls t) v

-- the number that a value says in a column: of a declared name its number, of a number itself; else 0
abbrev pub number_in : Lists → Column → List ℕ → ℕ
number_in ls (New t) v = 0
number_in ls (Known t) v = or_zero (named ls t v)
number_in ls Number v = written_number v
number_in ls Flag v = 0

-- the number that the field at a place says
unfoldable pub number_at : Lists → Kind → List (List ℕ) → ℕ → ℕ
number_at ls k vs i = number_in ls (column_at k i) (value_at_lem vs i)

abbrev formed_at : Lists → Draft → Kind → List (List ℕ) → Option ℕ → Option ℕ
formed_at ls d k vs (Some i) = permission_of d (number_at ls k vs i) (number_at ls k vs (i + 1))
formed_at ls d k vs None = None

-- the permission that the device and the operation of a record form, where its kind needs one
unfoldable pub formed : Lists → Draft → Kind → List (List ℕ) → Option ℕ
formed ls d k vs = formed_at ls d k vs (permission_place_lem k)

-- its number; 0 where there is none
abbrev pub permission_number_lem : Lists → Draft → Kind → List (List ℕ) → ℕ
permission_number_lem ls d k vs = or_zero (formed ls d k vs)
