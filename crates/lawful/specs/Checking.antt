-- The check of a draft, rule after rule.
use Rattle.std.specs.Prelude.{ℕ, Bool, not, List, [], ◌∷◌, is_some, Some, None, Ok, Err, Option, Result}
use Rattle.refusals.specs.declared.refusal.Refusal.{Refusal}
use Rattle.refusals.specs.declared.refusal.Refusal.TheVariants.{IllFormedDraft, SeparatedRolesHeld, UnitsOverlap, ProhibitedPairAssigned, ReachesBarredPermission}
use Rattle.tables.specs.declared.draft.Draft.{Draft}
use Rattle.tables.specs.declared.relation.Relation.TheVariants.{UserRoles, PermissionAssignment, RolePairAssignment, Bars, StaticSeparation, DynamicSeparation, Administrators, RoleTaskRolePairs, RoleTaskDeviceRoles, PermissionTaskPermissions, PermissionTaskDeviceRoles, ProhibitedPairs}
use Rattle.tables.specs.declared.table.Table.TheVariants.{Things, Permissions, RolePairs, Entries}
use Rattle.tables.specs.declared.table.Thing.{Thing}
use Rattle.tables.specs.declared.table.Thing.TheVariants.{User, Role, Device, Operation, DeviceRole, Condition, EnvironmentRole}
use Rattle.lawful.specs.Breaking.{breach_of}
use Rattle.lawful.specs.declared.rule.Rule.{Rule}
use Rattle.lawful.specs.declared.rule.Rule.TheVariants.{WithinLimit, PermissionsDeclared, RolePairsDeclared, EntriesDeclared, PermissionsApart, RolePairsApart, PairsDeclared, NumberInRange, RolesSeparate, TasksApart, NothingProhibited, NothingBarred}
use Rattle.lawful.specs.declared.task.Task.{Task}

abbrev pub refusal_of : Rule → Refusal
refusal_of (WithinLimit t) = IllFormedDraft
refusal_of PermissionsDeclared = IllFormedDraft
refusal_of RolePairsDeclared = IllFormedDraft
refusal_of EntriesDeclared = IllFormedDraft
refusal_of PermissionsApart = IllFormedDraft
refusal_of RolePairsApart = IllFormedDraft
refusal_of (PairsDeclared s) = IllFormedDraft
refusal_of NumberInRange = IllFormedDraft
refusal_of RolesSeparate = SeparatedRolesHeld
refusal_of (TasksApart t) = UnitsOverlap
refusal_of NothingProhibited = ProhibitedPairAssigned
refusal_of NothingBarred = ReachesBarredPermission

-- the rules in the order in which they are tested: by refusal, and among the first by table
abbrev pub all_rules : List Rule
all_rules =
    WithinLimit (Things User) ∷ WithinLimit (Things Role) ∷ WithinLimit (Things Device) ∷ WithinLimit (Things Operation)
    ∷ WithinLimit (Things DeviceRole) ∷ WithinLimit (Things Condition) ∷ WithinLimit (Things EnvironmentRole) ∷ WithinLimit (Things Thing.Unit)
    ∷ WithinLimit Permissions ∷ PermissionsDeclared ∷ PermissionsApart
    ∷ WithinLimit RolePairs ∷ RolePairsDeclared ∷ RolePairsApart
    ∷ WithinLimit Entries ∷ EntriesDeclared
    ∷ PairsDeclared UserRoles ∷ PairsDeclared PermissionAssignment ∷ PairsDeclared RolePairAssignment ∷ PairsDeclared Bars
    ∷ PairsDeclared StaticSeparation ∷ PairsDeclared DynamicSeparation ∷ PairsDeclared Administrators
    ∷ PairsDeclared RoleTaskRolePairs ∷ PairsDeclared RoleTaskDeviceRoles ∷ PairsDeclared PermissionTaskPermissions ∷ PairsDeclared PermissionTaskDeviceRoles
    ∷ PairsDeclared ProhibitedPairs ∷ NumberInRange
    ∷ RolesSeparate ∷ TasksApart Task.RolePairs ∷ TasksApart Task.Permissions ∷ NothingProhibited ∷ NothingBarred ∷ []

-- the rule, if it has a breach, and else the rest
abbrev pub or_rest : Rule → Option (ℕ × ℕ) → Option Rule → Option Rule
or_rest r (Some p) rest = Some r
or_rest r None rest = rest

-- the first rule of a list that is broken
unfoldable pub first_broken_lem : Draft → List Rule → Option Rule
first_broken_lem d [] = None
first_broken_lem d (r ∷ rs) = or_rest r (breach_of d r) (first_broken_lem d rs)

abbrev pub answer_of : Option Rule → Result Unit Refusal
answer_of None = Ok tt
answer_of (Some r) = Err (refusal_of r)

-- what the check of a draft answers
abbrev pub checked : Draft → Result Unit Refusal
checked d = answer_of (first_broken_lem d all_rules)

-- whether a draft may open, as a test
abbrev pub is_lawful : Draft → Bool
is_lawful d = not (is_some (first_broken_lem d all_rules))
