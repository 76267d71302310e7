-- Which pairs are in the task of which unit.
use Rattle.std.specs.Prelude.{◌≡◌, ℕ, Bool, true, Some, None, Option, ◌≢◌}
use Rattle.rows.specs.Numbers.{both}
use Rattle.tables.specs.Drafts.{related}
use Rattle.tables.specs.declared.draft.Draft.{Draft}
use Rattle.tables.specs.declared.relation.Relation.{Relation}
use Rattle.tables.specs.declared.relation.Relation.TheVariants.{RoleTaskRolePairs, RoleTaskDeviceRoles, PermissionTaskPermissions, PermissionTaskDeviceRoles}
use Rattle.lawful.specs.declared.task.Task.{Task}
use Rattle.lawful.specs.declared.task.Task.TheVariants.{RolePairs, Permissions}

-- the relations that say what is in a task: of what is on its left side, and of the device roles
abbrev pub lefts_of : Task → Relation
lefts_of RolePairs = RoleTaskRolePairs
lefts_of Permissions = PermissionTaskPermissions

abbrev pub rights_of : Task → Relation
rights_of RolePairs = RoleTaskDeviceRoles
rights_of Permissions = PermissionTaskDeviceRoles

-- the units whose task holds the pair l, e: both halves are in it
abbrev pub held_by : Draft → Task → ℕ → ℕ → (ℕ → Bool)
held_by d t l e = both (related d (lefts_of t) l) (related d (rights_of t) e)

-- In words: the tasks of different units share no pair.
abbrev pub TasksAreApart : Draft → Task → Type 0
TasksAreApart d t = (l e u v : ℕ) → held_by d t l e u ≡ true → held_by d t l e v ≡ true → u ≡ v

-- In words: no unit's task holds the pair; or this unit's does, and where tasks are apart no other's.
abbrev pub Holder : Draft → Task → ℕ → ℕ → Option ℕ → Type 0
Holder d t l e None = (v : ℕ) → held_by d t l e v ≢ true
Holder d t l e (Some u) = (held_by d t l e u ≡ true) × (TasksAreApart d t → (v : ℕ) → held_by d t l e v ≡ true → v ≡ u)
