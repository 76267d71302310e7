-- What an accepted record leaves.
use Rattle.std.specs.Prelude.{ℕ, zero, suc, ◌+◌, ◌-◌, List, length}
use Rattle.forms.specs.Fields.{value_at_lem}
use Rattle.kinds.specs.declared.column.NameTable.TheVariants as named_in
use Rattle.kinds.specs.declared.kind.Kind.{Kind}
use Rattle.kinds.specs.declared.kind.Kind.TheVariants.{Declare, Permission, RolePair, Entry, Relate, Ask}
use Rattle.names.specs.Spellings.{with_name}
use Rattle.rows.specs.Rows.{empty_row, row_with}
use Rattle.rows.specs.declared.row.Row.{Row}
use Rattle.sheets.specs.Numbers.{Lists, number_at}
use Rattle.tables.specs.Adding.{with_thing, with_permission, with_role_pair, with_entry, with_pair_in}
use Rattle.tables.specs.declared.draft.Draft.{Draft}
use Rattle.tables.specs.declared.parts.Entry as entries
use Rattle.tables.specs.declared.parts.Permission as permissions
use Rattle.tables.specs.declared.parts.RolePair as role_pairs
use Rattle.drafting.specs.Pairing.{left_number, right_number}

-- the set of the n numbers f i, f (i + 1) and so on, put in one after another
unfoldable pub row_from : (ℕ → ℕ) → ℕ → ℕ → Row
row_from f i zero = empty_row
row_from f i (suc n) = row_with (row_from f i n) (f (i + n))

-- the set of the numbers that the fields from place i on say
abbrev pub set_from_lem : Lists → Kind → List (List ℕ) → ℕ → Row
set_from_lem ls k vs i = row_from (number_at ls k vs) i (length vs - 1 - i)

-- what a record adds to a list
abbrev pub permission_said : Lists → Kind → List (List ℕ) → permissions.Permission
permission_said ls k vs = record { device = number_at ls k vs 0; operation = number_at ls k vs 1 }

abbrev pub role_pair_said : Lists → Kind → List (List ℕ) → role_pairs.RolePair
role_pair_said ls k vs = record { role = number_at ls k vs 1; environment_roles = set_from_lem ls k vs 2 }

abbrev pub entry_said : Lists → Kind → List (List ℕ) → entries.Entry
entry_said ls k vs = record { environment_role = number_at ls k vs 0; conditions = set_from_lem ls k vs 1 }

-- the names after a record: one more in its table where it declares one
abbrev pub names_after : Lists → Kind → List (List ℕ) → Lists
names_after ls (Declare t) vs = with_name ls (named_in.Things t) (value_at_lem vs 0)
names_after ls Permission vs = ls
names_after ls RolePair vs = with_name ls named_in.RolePairs (value_at_lem vs 0)
names_after ls Entry vs = ls
names_after ls (Relate r) vs = ls
names_after ls (Ask q) vs = ls

-- the draft after a record: one more thing, permission, role pair or entry, or a pair put in a relation; a request
-- leaves it as it was
abbrev pub draft_after : Lists → Draft → Kind → List (List ℕ) → Draft
draft_after ls d (Declare t) vs = with_thing d t
draft_after ls d Permission vs = with_permission d (permission_said ls Permission vs)
draft_after ls d RolePair vs = with_role_pair d (role_pair_said ls RolePair vs)
draft_after ls d Entry vs = with_entry d (entry_said ls Entry vs)
draft_after ls d (Relate r) vs = with_pair_in d r (left_number ls d r vs) (right_number ls r vs)
draft_after ls d (Ask q) vs = d
