-- What a draft holds.
use Rattle.std.specs.Prelude.{◌≡◌, ℕ, Bool, ◌&&◌, List, [], take, Option, ◌==◌, nat_lt, slice_index, slice_index_or}
use Rattle.search.specs.Firsts.{first_below}
use Rattle.stores.specs.Pairs.{no_pairs}
use Rattle.stores.specs.Rows.{pairs_in}
use Rattle.tables.specs.Indices.{thing_index, relation_index}
use Rattle.tables.specs.Limits.{table_limit}
use Rattle.tables.specs.declared.draft.Draft.{Draft}
use Rattle.tables.specs.declared.parts.Entry.{Entry}
use Rattle.tables.specs.declared.parts.Permission.{Permission}
use Rattle.tables.specs.declared.parts.RolePair.{RolePair}
use Rattle.tables.specs.declared.relation.Relation.{Relation}
use Rattle.tables.specs.declared.table.Table.{Table}
use Rattle.tables.specs.declared.table.Table.TheVariants.{Things, Permissions, RolePairs, Entries}
use Rattle.tables.specs.declared.table.Thing.{Thing}

-- how many things of a kind there are
abbrev pub things : Draft → Thing → ℕ
things d t = slice_index d.counts (thing_index t)

-- how many items a list has
abbrev pub count : Draft → Table → ℕ
count d (Things t) = things d t
count d Permissions = d.permissions.count
count d RolePairs = d.role_pairs.count
count d Entries = d.entries.count

-- whether a list has an item of this number, and can have it
abbrev pub declared : Draft → Table → ℕ → Bool
declared d t n = nat_lt n (count d t) && nat_lt n (table_limit t)

-- the pairs of a relation
unfoldable pub related : Draft → Relation → ℕ → ℕ → Bool
related d r = pairs_in (slice_index_or d.relations (relation_index r) (record { rows = [] }))

-- the item of a list at a place
abbrev pub permission_at : Draft → ℕ → Permission
permission_at d p = slice_index_or d.permissions.places p (record { device = 0; operation = 0 })

abbrev pub role_pair_at : Draft → ℕ → RolePair
role_pair_at d q = slice_index_or d.role_pairs.places q (record { role = 0; environment_roles = record { bits = 0 } })

abbrev pub entry_at : Draft → ℕ → Entry
entry_at d e = slice_index_or d.entries.places e (record { environment_role = 0; conditions = record { bits = 0 } })

-- the entries that count
abbrev pub entries_of : Draft → List Entry
entries_of d = take d.entries.count d.entries.places

-- whether p is a permission, and that of the device and the operation
abbrev pub is_permission_lem : Draft → ℕ → ℕ → ℕ → Bool
is_permission_lem d device operation p = declared d Permissions p && ((permission_at d p).device == device && (permission_at d p).operation == operation)

-- the number of the permission of the device and the operation: the first that is
abbrev pub permission_of : Draft → ℕ → ℕ → Option ℕ
permission_of d device operation = first_below (is_permission_lem d device operation) (table_limit Permissions)

-- In words: no list has an item, no relation a pair, and the house number is 0.
abbrev pub Empty : Draft → Type 0
Empty d = (d.number ≡ 0) × ((t : Table) → count d t ≡ 0) × ((r : Relation) → related d r ≡ no_pairs)
