-- What a lawful draft keeps, in words: for all numbers, with no search in it. And what the check's answer says.
use Rattle.std.specs.Prelude.{◌≡◌, ℕ, ◌<◌, ◌≤◌, true, Ok, Err, Result, ◌≢◌}
use Rattle.refusals.specs.Codes.{code_of}
use Rattle.refusals.specs.declared.refusal.Refusal.{Refusal}
use Rattle.rows.specs.Rows.{numbers}
use Rattle.tables.specs.Drafts.{things, count, declared, related, permission_at, role_pair_at, entry_at}
use Rattle.tables.specs.Limits.{table_limit, number_limit}
use Rattle.tables.specs.Sides.{left_of, right_of}
use Rattle.tables.specs.declared.draft.Draft.{Draft}
use Rattle.tables.specs.declared.relation.Relation.{Relation}
use Rattle.tables.specs.declared.relation.Relation.TheVariants.{UserRoles, PermissionAssignment, RolePairAssignment, Bars, StaticSeparation, ProhibitedPairs}
use Rattle.tables.specs.declared.table.Table.{Table}
use Rattle.tables.specs.declared.table.Table.TheVariants.{Things, Permissions, RolePairs, Entries}
use Rattle.tables.specs.declared.table.Thing.TheVariants.{Role, Device, Operation, Condition, EnvironmentRole}
use Rattle.lawful.specs.Breaking.{breaks}
use Rattle.lawful.specs.Checking.{refusal_of}
use Rattle.lawful.specs.Tasks.{TasksAreApart}
use Rattle.lawful.specs.declared.rule.Rule.{Rule}
use Rattle.lawful.specs.declared.rule.Rule.TheVariants.{WithinLimit, PermissionsDeclared, RolePairsDeclared, EntriesDeclared, PermissionsApart, RolePairsApart, PairsDeclared, NumberInRange, RolesSeparate, TasksApart, NothingProhibited, NothingBarred}

-- the number is declared in the list
abbrev pub Declared : Draft → Table → ℕ → Type 0
Declared d t n = declared d t n ≡ true

-- the pair is in the relation
abbrev pub In : Draft → Relation → ℕ → ℕ → Type 0
In d r a b = related d r a b ≡ true

abbrev pub Keeps : Draft → Rule → Type 0
Keeps d (WithinLimit t) = count d t ≤ table_limit t
Keeps d PermissionsDeclared = (p : ℕ) → Declared d Permissions p → Declared d (Things Device) (permission_at d p).device × Declared d (Things Operation) (permission_at d p).operation
Keeps d RolePairsDeclared = (q : ℕ) → Declared d RolePairs q
    → Declared d (Things Role) (role_pair_at d q).role × ((e : ℕ) → numbers (role_pair_at d q).environment_roles e ≡ true → e < things d EnvironmentRole)
Keeps d EntriesDeclared = (k : ℕ) → Declared d Entries k
    → Declared d (Things EnvironmentRole) (entry_at d k).environment_role × ((c : ℕ) → numbers (entry_at d k).conditions c ≡ true → c < things d Condition)
Keeps d PermissionsApart = (i j : ℕ) → i < j → Declared d Permissions j → (permission_at d i).device ≡ (permission_at d j).device → (permission_at d i).operation ≢ (permission_at d j).operation
Keeps d RolePairsApart = (i j : ℕ) → i < j → Declared d RolePairs j
    → (role_pair_at d i).role ≡ (role_pair_at d j).role → numbers (role_pair_at d i).environment_roles ≢ numbers (role_pair_at d j).environment_roles
Keeps d (PairsDeclared s) = (a b : ℕ) → In d s a b → Declared d (left_of s) a × Declared d (Things (right_of s)) b
Keeps d NumberInRange = d.number ≤ number_limit
Keeps d RolesSeparate = (u a b : ℕ) → In d UserRoles u a → In d UserRoles u b → In d StaticSeparation a b → ⊥
Keeps d (TasksApart t) = TasksAreApart d t
Keeps d NothingProhibited = (q e : ℕ) → In d ProhibitedPairs q e → In d RolePairAssignment q e → ⊥
Keeps d NothingBarred = (q e p : ℕ) → In d RolePairAssignment q e → In d PermissionAssignment p e → In d Bars p (role_pair_at d q).role → ⊥

-- a draft that may open
abbrev pub Lawful : Draft → Type 0
Lawful d = (rule : Rule) → Keeps d rule

-- Why a draft is refused: a rule with this refusal is not kept, as this pair of numbers shows, and every rule whose
-- refusal has a lower number is.
abbrev pub Refused : Draft → Refusal → Type 0
Refused d g =
    ((rule : Rule) × (refusal_of rule ≡ g) × (Keeps d rule → ⊥) × ((l : ℕ) × (r : ℕ) × (breaks d rule l r ≡ true)))
    × ((rule : Rule) → code_of (refusal_of rule) < code_of g → Keeps d rule)

-- what the check's answer says of the draft
abbrev pub Says : Draft → Result Unit Refusal → Type 0
Says d (Ok _) = Lawful d
Says d (Err g) = Refused d g
