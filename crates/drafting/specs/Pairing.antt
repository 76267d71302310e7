-- The pair that a record puts in a relation. Place 0 is the field behind the record name.
use Rattle.std.specs.Prelude.{ℕ, List, Some, None, Option}
use Rattle.kinds.specs.Columns.{permission_place_lem}
use Rattle.kinds.specs.declared.kind.Kind.TheVariants.{Relate}
use Rattle.sheets.specs.Numbers.{Lists, number_at, permission_number_lem}
use Rattle.tables.specs.declared.draft.Draft.{Draft}
use Rattle.tables.specs.declared.relation.Relation.{Relation}
use Rattle.tables.specs.declared.relation.Relation.TheVariants.{UserRoles, PermissionAssignment, RolePairAssignment, Bars, StaticSeparation, DynamicSeparation, Administrators, RoleTaskRolePairs, RoleTaskDeviceRoles, PermissionTaskPermissions, PermissionTaskDeviceRoles, ProhibitedPairs}

-- where the left side of the pair stands: its name, or the device of its permission
abbrev pub left_place_lem : Relation → ℕ
left_place_lem UserRoles = 0
left_place_lem PermissionAssignment = 0
left_place_lem RolePairAssignment = 0
left_place_lem Bars = 0
left_place_lem StaticSeparation = 0
left_place_lem DynamicSeparation = 0
left_place_lem Administrators = 0
left_place_lem RoleTaskRolePairs = 1
left_place_lem RoleTaskDeviceRoles = 1
left_place_lem PermissionTaskPermissions = 1
left_place_lem PermissionTaskDeviceRoles = 1
left_place_lem ProhibitedPairs = 0

-- where the name of the right side stands
abbrev pub right_place_lem : Relation → ℕ
right_place_lem UserRoles = 1
right_place_lem PermissionAssignment = 2
right_place_lem RolePairAssignment = 1
right_place_lem Bars = 2
right_place_lem StaticSeparation = 1
right_place_lem DynamicSeparation = 1
right_place_lem Administrators = 1
right_place_lem RoleTaskRolePairs = 0
right_place_lem RoleTaskDeviceRoles = 0
right_place_lem PermissionTaskPermissions = 0
right_place_lem PermissionTaskDeviceRoles = 0
right_place_lem ProhibitedPairs = 1

abbrev left_by : Lists → Draft → Relation → List (List ℕ) → Option ℕ → ℕ
left_by ls d r vs (Some i) = permission_number_lem ls d (Relate r) vs
left_by ls d r vs None = number_at ls (Relate r) vs (left_place_lem r)

-- the left number of the pair: that of the permission where the record needs one, else that of the name
unfoldable pub left_number : Lists → Draft → Relation → List (List ℕ) → ℕ
left_number ls d r vs = left_by ls d r vs (permission_place_lem (Relate r))

-- the right number of the pair
abbrev pub right_number : Lists → Relation → List (List ℕ) → ℕ
right_number ls r vs = number_at ls (Relate r) vs (right_place_lem r)
