-- The record names, and the kind of record that each names.
use Rattle.std.specs.Prelude.{◌≡◌, ℕ, cond, List, [], ◌∷◌, Some, None, codes, Option}
use Rattle.std.specs.Str.{bytes_eq}
use Rattle.tables.specs.declared.relation.Relation.TheVariants.{UserRoles, PermissionAssignment, RolePairAssignment, Bars, StaticSeparation, DynamicSeparation, Administrators, RoleTaskRolePairs, RoleTaskDeviceRoles, PermissionTaskPermissions, PermissionTaskDeviceRoles, ProhibitedPairs}
use Rattle.tables.specs.declared.table.Thing.{Thing}
use Rattle.tables.specs.declared.table.Thing.TheVariants.{User, Role, Device, Operation, DeviceRole, Condition, EnvironmentRole}
use Rattle.kinds.specs.declared.kind.Kind.{Kind}
use Rattle.kinds.specs.declared.kind.Kind.TheVariants.{Declare, Permission, RolePair, Entry, Relate, Ask}
use Rattle.kinds.specs.declared.kind.Request.TheVariants.{Open, Start, End, Activate, Drop, CheckAccess, AssignRolePair, RevokeRolePair, AssignPermission, RevokePermission, Sense, Clock, Window}
use Rattle.kinds.specs.declared.words.Word.{Word}

-- the 36 record names, each with its kind
abbrev pub words : List (List ℕ × Kind)
words =
    (codes "U", Declare User) ∷
    (codes "R", Declare Role) ∷
    (codes "D", Declare Device) ∷
    (codes "OP", Declare Operation) ∷
    (codes "DR", Declare DeviceRole) ∷
    (codes "EC", Declare Condition) ∷
    (codes "ER", Declare EnvironmentRole) ∷
    (codes "AR", Declare Thing.Unit) ∷
    (codes "P", Permission) ∷
    (codes "RP", RolePair) ∷
    (codes "EA", Entry) ∷
    (codes "UA", Relate UserRoles) ∷
    (codes "PDRA", Relate PermissionAssignment) ∷
    (codes "RPDRA", Relate RolePairAssignment) ∷
    (codes "PRConstraints", Relate Bars) ∷
    (codes "SSDConstraints", Relate StaticSeparation) ∷
    (codes "DSDConstraints", Relate DynamicSeparation) ∷
    (codes "AUA", Relate Administrators) ∷
    (codes "R-AT-RP", Relate RoleTaskRolePairs) ∷
    (codes "R-AT-DR", Relate RoleTaskDeviceRoles) ∷
    (codes "P-AT-P", Relate PermissionTaskPermissions) ∷
    (codes "P-AT-DR", Relate PermissionTaskDeviceRoles) ∷
    (codes "ProhibitedAssignment", Relate ProhibitedPairs) ∷
    (codes "open", Ask Open) ∷
    (codes "start", Ask Start) ∷
    (codes "end", Ask End) ∷
    (codes "activate", Ask Activate) ∷
    (codes "drop", Ask Drop) ∷
    (codes "checkAccess", Ask CheckAccess) ∷
    (codes "assignRPDR", Ask AssignRolePair) ∷
    (codes "revokeRPDR", Ask RevokeRolePair) ∷
    (codes "assignPDR", Ask AssignPermission) ∷
    (codes "revokePDR", Ask RevokePermission) ∷
    (codes "sense", Ask Sense) ∷
    (codes "clock", Ask Clock) ∷
    (codes "window", Ask Window) ∷
    []

-- the kind of the first entry that has those bytes
unfoldable pub find : List (List ℕ × Kind) → List ℕ → Option Kind
find [] w = None
find (e ∷ es) w = cond (bytes_eq w e.0) (Some e.1) (find es w)

-- the kind that the bytes name; none where they are no record name
unfoldable pub kind_of_lem : List ℕ → Option Kind
kind_of_lem w = find words w

-- what the table in the code lists
abbrev pub listed : List Word → List (List ℕ × Kind)
listed [] = []
listed (e ∷ es) = (e.0.now, e.1) ∷ listed es

-- each kind has a word, and no other bytes name it
abbrev pub OneWordEach : Type 0
OneWordEach = (k : Kind) → (w : List ℕ) × ((kind_of_lem w ≡ Some k) × ((v : List ℕ) → kind_of_lem v ≡ Some k → v ≡ w))
