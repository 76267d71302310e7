-- What adding to a draft answers, and the draft after it.
use Rattle.std.specs.Prelude.{ℕ, ◌+◌, Bool, cond, not, List, [], is_some, Ok, Err, Result, ◌==◌, nat_le, slice_index_or, slice_set}
use Rattle.refusals.specs.declared.refusal.Refusal.{Refusal}
use Rattle.refusals.specs.declared.refusal.Refusal.TheVariants.{AlreadyDeclared, NotDeclared, TableFull}
use Rattle.rows.specs.Numbers.{beyond}
use Rattle.search.specs.Below.{some_below}
use Rattle.stores.specs.Pairs.{with_pair}
use Rattle.stores.specs.Rows.{rows_with}
use Rattle.tables.specs.Drafts.{things, count, permission_of}
use Rattle.tables.specs.Indices.{thing_index, relation_index}
use Rattle.tables.specs.Lists.{with_item}
use Rattle.tables.specs.Naming.{permission_lacks, role_pair_lacks, entry_lacks, pair_declared}
use Rattle.tables.specs.Limits.{table_limit}
use Rattle.tables.specs.declared.draft.Draft.{Draft}
use Rattle.tables.specs.declared.items.Items.{Items}
use Rattle.tables.specs.declared.parts.Entry.{Entry}
use Rattle.tables.specs.declared.parts.Permission.{Permission}
use Rattle.tables.specs.declared.parts.RolePair.{RolePair}
use Rattle.tables.specs.declared.relation.Relation.{Relation}
use Rattle.tables.specs.declared.table.Table.{Table}
use Rattle.tables.specs.declared.table.Table.TheVariants.{Things, Permissions, RolePairs, Entries}
use Rattle.tables.specs.declared.table.Thing.{Thing}

-- a reason, tested before the rest
abbrev pub unless : {A : Type 0} → Bool → Refusal → Result A Refusal → Result A Refusal
unless applies reason rest = cond applies (Err reason) rest

-- the number of the next item of a list of n, unless the list is full
abbrev pub next_number : ℕ → ℕ → Result ℕ Refusal
next_number n limit = unless (nat_le limit n) (TableFull 0) (Ok n)

abbrev pub next_of : Draft → Table → Result ℕ Refusal
next_of d t = next_number (count d t) (table_limit t)

abbrev pub declaring : Draft → Thing → Result ℕ Refusal
declaring d t = next_of d (Things t)

abbrev pub adding_permission : Draft → Permission → Result ℕ Refusal
adding_permission d p =
    unless (is_some (permission_of d p.device p.operation)) (AlreadyDeclared 0)
    (unless (permission_lacks d p) (NotDeclared 0) (next_of d Permissions))

-- a number of the set is not below n
abbrev pub goes_beyond_lem : (ℕ → Bool) → ℕ → Bool
goes_beyond_lem s n = some_below (beyond s n) 32

abbrev pub adding_role_pair : Draft → RolePair → Result ℕ Refusal
adding_role_pair d q = unless (role_pair_lacks d q) (NotDeclared 0) (next_of d RolePairs)

abbrev pub adding_entry : Draft → Entry → Result ℕ Refusal
adding_entry d e = unless (entry_lacks d e) (NotDeclared 0) (next_of d Entries)

abbrev pub relating : Draft → Relation → ℕ → ℕ → Result Unit Refusal
relating d r a b = unless (not (pair_declared d r a b)) (NotDeclared 0) (Ok tt)

-- the draft with one more thing, permission, role pair or entry

abbrev pub with_thing : Draft → Thing → Draft
with_thing d t = record d { counts = slice_set d.counts (thing_index t) (things d t + 1) }

abbrev pub with_permission : Draft → Permission → Draft
with_permission d p = record d { permissions = with_item d.permissions p }

abbrev pub with_role_pair : Draft → RolePair → Draft
with_role_pair d q = record d { role_pairs = with_item d.role_pairs q }

abbrev pub with_entry : Draft → Entry → Draft
with_entry d e = record d { entries = with_item d.entries e }

-- the draft with the pair a, b put in a relation
abbrev pub with_pair_in : Draft → Relation → ℕ → ℕ → Draft
with_pair_in d r a b = record d { relations = slice_set d.relations (relation_index r) (rows_with (slice_index_or d.relations (relation_index r) (record { rows = [] })) a b) }

-- the relations with one pair more in one of them
unfoldable pub with_related : (Relation → ℕ → ℕ → Bool) → Relation → ℕ → ℕ → (Relation → ℕ → ℕ → Bool)
with_related s r a b = λ q. cond (relation_index r == relation_index q) (with_pair (s q) a b) (s q)

-- all of a draft but its relations
abbrev pub lists_of : Draft → ℕ × List ℕ × Items Permission × Items RolePair × Items Entry
lists_of d = (d.number, d.counts, d.permissions, d.role_pairs, d.entries)
