-- The columns of each kind, and how many fields a record of it has.
use Rattle.std.specs.Prelude.{ℕ, ◌+◌, Bool, ◌&&◌, List, [], ◌∷◌, length, Some, None, Option, ◌==◌, nat_le, slice_index_or}
use Rattle.tables.specs.declared.relation.Relation.{Relation}
use Rattle.tables.specs.declared.relation.Relation.TheVariants.{UserRoles, PermissionAssignment, RolePairAssignment, Bars, StaticSeparation, DynamicSeparation, Administrators, RoleTaskRolePairs, RoleTaskDeviceRoles, PermissionTaskPermissions, PermissionTaskDeviceRoles, ProhibitedPairs}
use Rattle.tables.specs.declared.table.Thing.{Thing}
use Rattle.tables.specs.declared.table.Thing.TheVariants.{User, Role, Device, Operation, DeviceRole, Condition, EnvironmentRole}
use Rattle.kinds.specs.declared.column.Column.{Column}
use Rattle.kinds.specs.declared.column.Column.TheVariants.{New, Known, Number, Flag}
use Rattle.kinds.specs.declared.column.NameTable.TheVariants.{Things, RolePairs}
use Rattle.kinds.specs.declared.kind.Kind.{Kind}
use Rattle.kinds.specs.declared.kind.Kind.TheVariants.{Declare, Permission, RolePair, Entry, Relate, Ask}
use Rattle.kinds.specs.declared.kind.Request.{Request}
use Rattle.kinds.specs.declared.kind.Request.TheVariants.{Open, Start, End, Activate, Drop, CheckAccess, AssignRolePair, RevokeRolePair, AssignPermission, RevokePermission, Sense, Clock, Window}

-- a declared name of each table
abbrev user : Column
user = Known (Things User)

abbrev role : Column
role = Known (Things Role)

abbrev device : Column
device = Known (Things Device)

abbrev operation : Column
operation = Known (Things Operation)

abbrev device_role : Column
device_role = Known (Things DeviceRole)

abbrev condition : Column
condition = Known (Things Condition)

abbrev environment_role : Column
environment_role = Known (Things EnvironmentRole)

abbrev unit : Column
unit = Known (Things Thing.Unit)

abbrev role_pair : Column
role_pair = Known RolePairs

-- of a record that declares a thing: its new name
abbrev pub declaring : Thing → List Column
declaring t = New (Things t) ∷ []

-- of a record that puts a pair in a relation
abbrev pub relating : Relation → List Column
relating UserRoles = user ∷ role ∷ []
relating PermissionAssignment = device ∷ operation ∷ device_role ∷ []
relating RolePairAssignment = role_pair ∷ device_role ∷ []
relating Bars = device ∷ operation ∷ role ∷ []
relating StaticSeparation = role ∷ role ∷ []
relating DynamicSeparation = role ∷ role ∷ []
relating Administrators = user ∷ unit ∷ []
relating RoleTaskRolePairs = unit ∷ role_pair ∷ []
relating RoleTaskDeviceRoles = unit ∷ device_role ∷ []
relating PermissionTaskPermissions = unit ∷ device ∷ operation ∷ []
relating PermissionTaskDeviceRoles = unit ∷ device_role ∷ []
relating ProhibitedPairs = role_pair ∷ device_role ∷ []

-- of a request; house number, session number, minute, from and to are numbers
abbrev pub asking : Request → List Column
asking Open = Number ∷ []
asking Start = Number ∷ user ∷ []
asking End = Number ∷ []
asking Activate = Number ∷ role ∷ []
asking Drop = Number ∷ role ∷ []
asking CheckAccess = Number ∷ device ∷ operation ∷ []
asking AssignRolePair = user ∷ unit ∷ role_pair ∷ device_role ∷ []
asking RevokeRolePair = user ∷ unit ∷ role_pair ∷ device_role ∷ []
asking AssignPermission = user ∷ unit ∷ device ∷ operation ∷ device_role ∷ []
asking RevokePermission = user ∷ unit ∷ device ∷ operation ∷ device_role ∷ []
asking Sense = condition ∷ Flag ∷ []
asking Clock = Number ∷ []
asking Window = condition ∷ Number ∷ Number ∷ []

-- the columns that each record of a kind has behind its name
abbrev pub columns_of : Kind → List Column
columns_of (Declare t) = declaring t
columns_of Permission = device ∷ operation ∷ []
columns_of RolePair = New RolePairs ∷ role ∷ []
columns_of Entry = environment_role ∷ []
columns_of (Relate r) = relating r
columns_of (Ask q) = asking q

-- the column that may stand none or more times behind those
abbrev pub repeated_of : Kind → Option Column
repeated_of (Declare t) = None
repeated_of Permission = None
repeated_of RolePair = Some environment_role
repeated_of Entry = Some condition
repeated_of (Relate r) = None
repeated_of (Ask q) = None

abbrev or_flag : Option Column → Column
or_flag (Some c) = c
or_flag None = Flag

-- the column of the field at a place, where place 0 is behind the record name: past all columns the repeated one, and
-- a flag where none is repeated
abbrev pub column_at : Kind → ℕ → Column
column_at k i = slice_index_or (columns_of k) i (or_flag (repeated_of k))

-- that many fields: exactly the least, or any number from there up to 40
abbrev fits : Option Column → ℕ → ℕ → Bool
fits None least n = n == least
fits (Some c) least n = nat_le least n && nat_le n 40

-- whether a record of a kind may have that many fields, its name included
abbrev pub takes : Kind → ℕ → Bool
takes k n = fits (repeated_of k) (length (columns_of k) + 1) n

abbrev relation_place : Relation → Option ℕ
relation_place UserRoles = None
relation_place PermissionAssignment = Some 0
relation_place RolePairAssignment = None
relation_place Bars = Some 0
relation_place StaticSeparation = None
relation_place DynamicSeparation = None
relation_place Administrators = None
relation_place RoleTaskRolePairs = None
relation_place RoleTaskDeviceRoles = None
relation_place PermissionTaskPermissions = Some 1
relation_place PermissionTaskDeviceRoles = None
relation_place ProhibitedPairs = None

abbrev request_place : Request → Option ℕ
request_place Open = None
request_place Start = None
request_place End = None
request_place Activate = None
request_place Drop = None
request_place CheckAccess = None
request_place AssignRolePair = None
request_place RevokeRolePair = None
request_place AssignPermission = Some 2
request_place RevokePermission = Some 2
request_place Sense = None
request_place Clock = None
request_place Window = None

-- the place of the device that has to form a declared permission with the operation behind it; none where the kind
-- needs no declared permission
abbrev pub permission_place_lem : Kind → Option ℕ
permission_place_lem (Declare t) = None
permission_place_lem Permission = None
permission_place_lem RolePair = None
permission_place_lem Entry = None
permission_place_lem (Relate r) = relation_place r
permission_place_lem (Ask q) = request_place q
