-- What the fields of a record say. The record name is the first field; place 0 is that of the field behind it.
use Rattle.std.specs.Prelude.{ℕ, ◌+◌, Bool, false, List, [], map, Some, None, Option, slice_index_or}
use Rattle.records.specs.declared.field.Field.{Field}
use Rattle.records.specs.Views.{value_of}
use Rattle.kinds.specs.declared.kind.Kind.{Kind}
use Rattle.values.specs.Numbers.{number_of}
use Rattle.values.specs.Flags.{flag_of}

-- a record of a known kind: what it says, in the values of the fields that are kept, its name first
pub record Content : Type 0 where
  pub kind : Kind
  pub values : List (List ℕ)

-- the values of the fields, bare and quoted alike
unfoldable pub values : List Field → List (List ℕ)
values fs = map value_of fs

-- the value of the field at a place behind the record name; empty past the last field
unfoldable pub value_at_lem : List (List ℕ) → ℕ → List ℕ
value_at_lem vs i = slice_index_or vs (i + 1) []

abbrev or_zero : Option ℕ → ℕ
or_zero (Some n) = n
or_zero None = 0

abbrev or_false : Option Bool → Bool
or_false (Some b) = b
or_false None = false

-- the number that a value writes; 0 where it writes none
abbrev pub written_number : List ℕ → ℕ
written_number v = or_zero (number_of v)

-- the flag that a value writes; false where it writes none
abbrev pub written_flag : List ℕ → Bool
written_flag v = or_false (flag_of v)
