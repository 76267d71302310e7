-- Each kind has exactly one word.
use Rattle.std.proofs.Common.{◌≡◌, ℕ, Bool, true, false, List, [], ◌∷◌, Some, codes, sym, refl, ap, ◌∙◌, arith}
use Rattle.std.proofs.lemmas.Slice.Eq.{bytes_eq-Decides}
use Rattle.std.proofs.lemmas.Bool.{and_parts}
use Rattle.std.specs.List.{list_all}
use Rattle.std.specs.Str.{bytes_eq}
use Rattle.tables.specs.declared.relation.Relation.{Relation}
use Rattle.tables.specs.declared.relation.Relation.TheVariants.{UserRoles, PermissionAssignment, RolePairAssignment, Bars, StaticSeparation, DynamicSeparation, Administrators, RoleTaskRolePairs, RoleTaskDeviceRoles, PermissionTaskPermissions, PermissionTaskDeviceRoles, ProhibitedPairs}
use Rattle.tables.specs.declared.table.Thing.{Thing}
use Rattle.tables.specs.declared.table.Thing.TheVariants.{User, Role, Device, Operation, DeviceRole, Condition, EnvironmentRole}
use Rattle.kinds.specs.declared.kind.Kind.{Kind}
use Rattle.kinds.specs.declared.kind.Kind.TheVariants.{Declare, Permission, RolePair, Entry, Relate, Ask}
use Rattle.kinds.specs.declared.kind.Request.{Request}
use Rattle.kinds.specs.declared.kind.Request.TheVariants.{Open, Start, End, Activate, Drop, CheckAccess, AssignRolePair, RevokeRolePair, AssignPermission, RevokePermission, Sense, Clock, Window}
use Rattle.kinds.specs.Words.{words, find, kind_of_lem, OneWordEach}

-- the word of each kind
abbrev thing_word : Thing → List ℕ
thing_word User = codes "U"
thing_word Role = codes "R"
thing_word Device = codes "D"
thing_word Operation = codes "OP"
thing_word DeviceRole = codes "DR"
thing_word Condition = codes "EC"
thing_word EnvironmentRole = codes "ER"
thing_word Thing.Unit = codes "AR"

abbrev relation_word : Relation → List ℕ
relation_word UserRoles = codes "UA"
relation_word PermissionAssignment = codes "PDRA"
relation_word RolePairAssignment = codes "RPDRA"
relation_word Bars = codes "PRConstraints"
relation_word StaticSeparation = codes "SSDConstraints"
relation_word DynamicSeparation = codes "DSDConstraints"
relation_word Administrators = codes "AUA"
relation_word RoleTaskRolePairs = codes "R-AT-RP"
relation_word RoleTaskDeviceRoles = codes "R-AT-DR"
relation_word PermissionTaskPermissions = codes "P-AT-P"
relation_word PermissionTaskDeviceRoles = codes "P-AT-DR"
relation_word ProhibitedPairs = codes "ProhibitedAssignment"

abbrev request_word : Request → List ℕ
request_word Open = codes "open"
request_word Start = codes "start"
request_word End = codes "end"
request_word Activate = codes "activate"
request_word Drop = codes "drop"
request_word CheckAccess = codes "checkAccess"
request_word AssignRolePair = codes "assignRPDR"
request_word RevokeRolePair = codes "revokeRPDR"
request_word AssignPermission = codes "assignPDR"
request_word RevokePermission = codes "revokePDR"
request_word Sense = codes "sense"
request_word Clock = codes "clock"
request_word Window = codes "window"

abbrev word_of : Kind → List ℕ
word_of (Declare t) = thing_word t
word_of Permission = codes "P"
word_of RolePair = codes "RP"
word_of Entry = codes "EA"
word_of (Relate r) = relation_word r
word_of (Ask q) = request_word q

-- each word names its kind
declares : (t : Thing) → kind_of_lem (thing_word t) ≡ Some (Declare t)
unfolding kind_of_lem find
declares User = refl
declares Role = refl
declares Device = refl
declares Operation = refl
declares DeviceRole = refl
declares Condition = refl
declares EnvironmentRole = refl
declares Thing.Unit = refl

relates : (r : Relation) → kind_of_lem (relation_word r) ≡ Some (Relate r)
unfolding kind_of_lem find
relates UserRoles = refl
relates PermissionAssignment = refl
relates RolePairAssignment = refl
relates Bars = refl
relates StaticSeparation = refl
relates DynamicSeparation = refl
relates Administrators = refl
relates RoleTaskRolePairs = refl
relates RoleTaskDeviceRoles = refl
relates PermissionTaskPermissions = refl
relates PermissionTaskDeviceRoles = refl
relates ProhibitedPairs = refl

asks : (q : Request) → kind_of_lem (request_word q) ≡ Some (Ask q)
unfolding kind_of_lem find
asks Open = refl
asks Start = refl
asks End = refl
asks Activate = refl
asks Drop = refl
asks CheckAccess = refl
asks AssignRolePair = refl
asks RevokeRolePair = refl
asks AssignPermission = refl
asks RevokePermission = refl
asks Sense = refl
asks Clock = refl
asks Window = refl

named : (k : Kind) → kind_of_lem (word_of k) ≡ Some k
unfolding kind_of_lem find
named (Declare t) = declares t
named Permission = refl
named RolePair = refl
named Entry = refl
named (Relate r) = relates r
named (Ask q) = asks q

-- every entry of a table has the word of its kind
abbrev rightly : List (List ℕ × Kind) → Bool
rightly es = list_all (λ e. bytes_eq (word_of e.1) e.0) es

-- then what the table finds has the word of the kind that it names
only : (es : List (List ℕ × Kind)) → rightly es ≡ true → (k : Kind) (v : List ℕ) → find es v ≡ Some k → v ≡ word_of k
unfolding find
only [] h k v e = let z : ◌≡◌ {A = ℕ} 0 1 = cc in absurd (omega arith)
only (x ∷ es) h k v e = by (bytes_eq v x.0) refl (only es right.1 k v) where
  right : (bytes_eq (word_of x.1) x.0 ≡ true) × (rightly es ≡ true)
  right = and_parts (bytes_eq (word_of x.1) x.0) (rightly es) h

  by : (b : Bool) → bytes_eq v x.0 ≡ b → (find es v ≡ Some k → v ≡ word_of k) → v ≡ word_of k
  by true one rest =
      let kind : x.1 ≡ k = (let s : Some x.1 ≡ Some k = rw one at e in cc) in
      (bytes_eq-Decides v x.0).0 one ∙ sym ((bytes_eq-Decides (word_of x.1) x.0).0 right.0) ∙ ap word_of kind
  by false one rest = rest (rw one at e)

pub one_word_each : OneWordEach
unfolding kind_of_lem
one_word_each k = (word_of k, (named k, only words refl k))
