-- Which lists the two numbers of a pair of each relation are from.
use Rattle.tables.specs.declared.relation.Relation.{Relation}
use Rattle.tables.specs.declared.relation.Relation.TheVariants.{UserRoles, PermissionAssignment, RolePairAssignment, Bars, StaticSeparation, DynamicSeparation, Administrators, RoleTaskRolePairs, RoleTaskDeviceRoles, PermissionTaskPermissions, PermissionTaskDeviceRoles, ProhibitedPairs}
use Rattle.tables.specs.declared.table.Table.{Table}
use Rattle.tables.specs.declared.table.Table.TheVariants.{Things, Permissions, RolePairs}
use Rattle.tables.specs.declared.table.Thing.{Thing}
use Rattle.tables.specs.declared.table.Thing.TheVariants.{User, Role, DeviceRole}

abbrev pub left_of : Relation → Table
left_of UserRoles = Things User
left_of PermissionAssignment = Permissions
left_of RolePairAssignment = RolePairs
left_of Bars = Permissions
left_of StaticSeparation = Things Role
left_of DynamicSeparation = Things Role
left_of Administrators = Things User
left_of RoleTaskRolePairs = RolePairs
left_of RoleTaskDeviceRoles = Things DeviceRole
left_of PermissionTaskPermissions = Permissions
left_of PermissionTaskDeviceRoles = Things DeviceRole
left_of ProhibitedPairs = RolePairs

abbrev pub right_of : Relation → Thing
right_of UserRoles = Role
right_of PermissionAssignment = DeviceRole
right_of RolePairAssignment = DeviceRole
right_of Bars = Role
right_of StaticSeparation = Role
right_of DynamicSeparation = Role
right_of Administrators = Thing.Unit
right_of RoleTaskRolePairs = Thing.Unit
right_of RoleTaskDeviceRoles = Thing.Unit
right_of PermissionTaskPermissions = Thing.Unit
right_of PermissionTaskDeviceRoles = Thing.Unit
right_of ProhibitedPairs = DeviceRole
