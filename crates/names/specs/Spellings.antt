-- What is declared in each table.
use Rattle.std.specs.Prelude.{◌≡◌, ℕ, ◌<◌, ◌≤◌, cond, List, [], ◌∷◌, ◌++◌, length, Ok, Err, Result}
use Rattle.index_set.specs.Items.{items_of}
use Rattle.kinds.specs.declared.column.NameTable.{NameTable}
use Rattle.kinds.specs.declared.column.NameTable.TheVariants.{Things, RolePairs}
use Rattle.refusals.specs.declared.refusal.Refusal.{Refusal}
use Rattle.refusals.specs.declared.refusal.Refusal.TheVariants.{MemoryTooShort}
use Rattle.tables.specs.declared.table.Thing.{Thing}
use Rattle.tables.specs.declared.table.Thing.TheVariants.{User, Role, Device, Operation, DeviceRole, Condition, EnvironmentRole}
use Rattle.values.specs.declared.name.Name.{Name}
use Rattle.names.specs.Spelt.{spelt}
use Rattle.names.specs.Tables.{same_table}
use Rattle.names.specs.declared.names.Names.{Names}

-- the names declared in each table, in order of declaration
abbrev pub names_of : Names → NameTable → List Name
names_of n (Things User) = items_of n.users.names
names_of n (Things Role) = items_of n.roles.names
names_of n (Things Device) = items_of n.devices.names
names_of n (Things Operation) = items_of n.operations.names
names_of n (Things DeviceRole) = items_of n.device_roles.names
names_of n (Things Condition) = items_of n.conditions.names
names_of n (Things EnvironmentRole) = items_of n.environment_roles.names
names_of n (Things Thing.Unit) = items_of n.units.names
names_of n RolePairs = items_of n.role_pairs.names

-- each by its bytes
abbrev pub spellings : Names → NameTable → List (List ℕ)
spellings n t = spelt (names_of n t)

-- the tables with one more name in table t, behind the others
unfoldable pub with_name : (NameTable → List (List ℕ)) → NameTable → List ℕ → (NameTable → List (List ℕ))
with_name ls t s = λ u. cond (same_table t u) (ls u ++ s ∷ []) (ls u)

-- What comes of making the tables over a memory: nothing is declared, or refusal 2 where there are fewer than 304 places.
abbrev pub Made : List Name → Result Names Refusal → Type 0
Made memory (Ok n) = (304 ≤ length memory) × ((t : NameTable) → spellings n t ≡ [])
Made memory (Err e) = (length memory < 304) × (e ≡ MemoryTooShort)
