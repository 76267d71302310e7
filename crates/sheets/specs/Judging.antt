-- The reasons 6 to 10, each as a test, and how a record is answered by them.
use Rattle.std.specs.Prelude.{ℕ, ◌-◌, Bool, true, false, not, ◌&&◌, ◌||◌, List, [], ◌∷◌, length, is_some, Some, None, Option, nat_le}
use Rattle.forms.specs.Fields.{value_at_lem}
use Rattle.forms.specs.Spelling.{all_spelt}
use Rattle.kinds.specs.Columns.{column_at, takes, permission_place_lem}
use Rattle.kinds.specs.declared.column.Column.{Column}
use Rattle.kinds.specs.declared.column.Column.TheVariants.{New, Known, Number, Flag}
use Rattle.kinds.specs.declared.column.NameTable.TheVariants as named_in
use Rattle.kinds.specs.declared.kind.Kind.{Kind}
use Rattle.kinds.specs.declared.kind.Kind.TheVariants.{Declare, Permission, RolePair, Entry, Relate, Ask}
use Rattle.refusals.specs.declared.refusal.Refusal.{Refusal}
use Rattle.refusals.specs.declared.refusal.Refusal.TheVariants.{WrongFieldCount, BadlyWritten, AlreadyDeclared, NotDeclared, TableFull}
use Rattle.search.specs.Below.{all_below}
use Rattle.tables.specs.Drafts.{count, permission_of}
use Rattle.tables.specs.Limits.{table_limit}
use Rattle.tables.specs.declared.draft.Draft.{Draft}
use Rattle.tables.specs.declared.table.Table.{Table}
use Rattle.tables.specs.declared.table.Table.TheVariants.{Things, Permissions, RolePairs, Entries}
use Rattle.sheets.specs.Numbers.{Lists, named, number_at, formed}

-- whether a value is declared, where the column wants a declared name
abbrev pub known_in : Lists → Column → List ℕ → Bool
known_in ls (New t) v = true
known_in ls (Known t) v = is_some (named ls t v)
known_in ls Number v = true
known_in ls Flag v = true

-- the same of the field at a place
unfoldable pub known_at : Lists → Kind → List (List ℕ) → ℕ → Bool
known_at ls k vs i = known_in ls (column_at k i) (value_at_lem vs i)

-- the same of every field behind the record name
unfoldable pub all_named : Lists → Kind → List (List ℕ) → Bool
all_named ls k vs = all_below (known_at ls k vs) (length vs - 1)

-- whether all is declared that the record speaks of: its names, and the permission where its kind needs one
abbrev pub all_known : Lists → Draft → Kind → List (List ℕ) → Bool
all_known ls d k vs = all_named ls k vs && (not (is_some (permission_place_lem k)) || is_some (formed ls d k vs))

-- whether the device and the operation of a record P are declared, and so is their permission
abbrev pub permitted : Lists → Draft → List (List ℕ) → Bool
permitted ls d vs =
    (known_at ls Permission vs 0 && known_at ls Permission vs 1) && is_some (permission_of d (number_at ls Permission vs 0) (number_at ls Permission vs 1))

-- whether what a record declares is declared already: its new name, or its permission
abbrev pub already : Lists → Draft → Kind → List (List ℕ) → Bool
already ls d (Declare t) vs = is_some (named ls (named_in.Things t) (value_at_lem vs 0))
already ls d Permission vs = permitted ls d vs
already ls d RolePair vs = is_some (named ls named_in.RolePairs (value_at_lem vs 0))
already ls d Entry vs = false
already ls d (Relate r) vs = false
already ls d (Ask q) vs = false

-- the list that an accepted record of a kind makes longer
abbrev pub grows : Kind → Option Table
grows (Declare t) = Some (Things t)
grows Permission = Some Permissions
grows RolePair = Some RolePairs
grows Entry = Some Entries
grows (Relate r) = None
grows (Ask q) = None

abbrev full : Draft → Option Table → Bool
full d (Some t) = nat_le (table_limit t) (count d t)
full d None = false

-- whether that list is full
abbrev pub is_full_lem : Draft → Kind → Bool
is_full_lem d k = full d (grows k)

-- the reasons for which a record is refused, in the order in which they are tested, and whether each applies:
-- k is its kind, at the place of its first byte, n the number of its fields, and vs are the values of those kept
abbrev pub record_tests : Lists → Draft → Kind → ℕ → ℕ → List (List ℕ) → List (Refusal × Bool)
record_tests ls d k at n vs =
    (WrongFieldCount at, not (takes k n))
    ∷ (BadlyWritten at, not (all_spelt k vs))
    ∷ (AlreadyDeclared at, already ls d k vs)
    ∷ (NotDeclared at, not (all_known ls d k vs))
    ∷ (TableFull at, is_full_lem d k) ∷ []
