-- Where the count of each kind of thing, and the pairs of each relation, stand in a draft.
use Rattle.std.specs.Prelude.{ℕ}
use Rattle.tables.specs.declared.relation.Relation.{Relation}
use Rattle.tables.specs.declared.relation.Relation.TheVariants.{UserRoles, PermissionAssignment, RolePairAssignment, Bars, StaticSeparation, DynamicSeparation, Administrators, RoleTaskRolePairs, RoleTaskDeviceRoles, PermissionTaskPermissions, PermissionTaskDeviceRoles, ProhibitedPairs}
use Rattle.tables.specs.declared.table.Thing.{Thing}
use Rattle.tables.specs.declared.table.Thing.TheVariants.{User, Role, Device, Operation, DeviceRole, Condition, EnvironmentRole}

abbrev pub thing_index : Thing → ℕ
thing_index User = 0
thing_index Role = 1
thing_index Device = 2
thing_index Operation = 3
thing_index DeviceRole = 4
thing_index Condition = 5
thing_index EnvironmentRole = 6
thing_index Thing.Unit = 7

abbrev pub relation_index : Relation → ℕ
relation_index UserRoles = 0
relation_index PermissionAssignment = 1
relation_index RolePairAssignment = 2
relation_index Bars = 3
relation_index StaticSeparation = 4
relation_index DynamicSeparation = 5
relation_index Administrators = 6
relation_index RoleTaskRolePairs = 7
relation_index RoleTaskDeviceRoles = 8
relation_index PermissionTaskPermissions = 9
relation_index PermissionTaskDeviceRoles = 10
relation_index ProhibitedPairs = 11
