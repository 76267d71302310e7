-- Each reason in words, and which refusal a call deserves.
use Rattle.std.specs.Prelude.{◌≡◌, ℕ, ◌<◌, true, ◌⊎◌, List, [], ◌∷◌, Some, ◌≢◌}
use Rattle.lawful.specs.Keeping.{Declared, In}
use Rattle.refusals.specs.Codes.{code_of}
use Rattle.refusals.specs.declared.refusal.Refusal.{Refusal}
use Rattle.refusals.specs.declared.refusal.Refusal.TheVariants.{InvalidLease, NoSuchNumber, NotAdministrator, LeaseOut, ProhibitedPair, OutsideTask, AlreadyAssigned, NotAssigned, WouldReachBarredPermission, SessionLive, SessionNotLive, RoleNotHeld, RoleUnchanged, SeparatedRolesActive, NoSuchPermission}
use Rattle.tables.specs.declared.draft.Draft.{Draft}
use Rattle.tables.specs.declared.relation.Relation.TheVariants.{DynamicSeparation, Administrators}
use Rattle.tables.specs.declared.table.Table.TheVariants.{Things, Permissions, RolePairs}
use Rattle.tables.specs.declared.table.Thing.{Thing}
use Rattle.tables.specs.declared.table.Thing.TheVariants.{User, Role, Device, Operation, DeviceRole}
use Rattle.rules.specs.Access.{Permits, Within}
use Rattle.rules.specs.Judging.{judge}
use Rattle.rules.specs.Reaching.{ReachesBarred}
use Rattle.rules.specs.Spots.{prohibited, in_task, with_spot}
use Rattle.rules.specs.States.{State, session_count}
use Rattle.refusals.specs.declared.answer.Answer.{Answer}
use Rattle.refusals.specs.declared.answer.Answer.TheVariants.{Accepted, Granted, Denied, Refused}
use Rattle.rules.specs.declared.call.Call.{Call}
use Rattle.rules.specs.declared.call.Call.TheVariants.{Acquire, Assign, Revoke, Release, Start, End, Activate, Deactivate, Check}
use Rattle.rules.specs.declared.call.LeaseNumbers.{LeaseNumbers}
use Rattle.rules.specs.declared.call.Spot.{Spot}
use Rattle.rules.specs.declared.call.Spot.TheVariants.{RolePair, Permission}

-- the lease is one of this house, and its unit's lease is out to its user
abbrev pub Valid : Draft → State → LeaseNumbers → Type 0
Valid d s k = (k.house ≡ d.number) × (s.lease k.unit ≡ Some k.user)

abbrev pub Known : Draft → Spot → Type 0
Known d (RolePair q e) = Declared d RolePairs q × Declared d (Things DeviceRole) e
Known d (Permission p e) = Declared d Permissions p × Declared d (Things DeviceRole) e

-- the lease of the unit u is out
abbrev pub Out : State → ℕ → Type 0
Out s u = (w : ℕ) × (s.lease u ≡ Some w)

-- the session k lives
abbrev pub Lives : State → ℕ → Type 0
Lives s k = (w : ℕ) × (s.session k ≡ Some w)

-- the user of the session k holds the role r
abbrev pub Holds : State → ℕ → ℕ → Type 0
Holds s k r = (w : ℕ) × (s.session k ≡ Some w) × (s.held w r ≡ true)

-- dynamic separation pairs the role r, in either order, with itself or with a role that is active in the session k
abbrev pub Clashes : Draft → State → ℕ → ℕ → Type 0
Clashes d s k r = (a : ℕ) × ((a ≡ r) ⊎ (s.active k a ≡ true)) × (In d DynamicSeparation r a ⊎ In d DynamicSeparation a r)

-- the reasons that concern a call, each in words
abbrev pub reasons : Draft → State → Call → List (Refusal × Type 0)
reasons d s (Acquire u w) =
    (NoSuchNumber, (Declared d (Things Thing.Unit) u × Declared d (Things User) w → ⊥))
    ∷ (NotAdministrator, (In d Administrators w u → ⊥))
    ∷ (LeaseOut, Out s u) ∷ []
reasons d s (Assign k x) =
    (InvalidLease, (Valid d s k → ⊥))
    ∷ (NoSuchNumber, (Known d x → ⊥))
    ∷ (ProhibitedPair, prohibited d x ≡ true)
    ∷ (OutsideTask, (in_task d k.unit x ≢ true))
    ∷ (AlreadyAssigned, s.pairs x ≡ true)
    ∷ (WouldReachBarredPermission, ReachesBarred d (with_spot s.pairs x)) ∷ []
reasons d s (Revoke k x) =
    (InvalidLease, (Valid d s k → ⊥))
    ∷ (NoSuchNumber, (Known d x → ⊥))
    ∷ (ProhibitedPair, prohibited d x ≡ true)
    ∷ (OutsideTask, (in_task d k.unit x ≢ true))
    ∷ (NotAssigned, (s.pairs x ≢ true)) ∷ []
reasons d s (Release k) = (InvalidLease, (Valid d s k → ⊥)) ∷ []
reasons d s (Start k w) =
    (NoSuchNumber, ((k < session_count) × Declared d (Things User) w → ⊥))
    ∷ (SessionLive, Lives s k) ∷ []
reasons d s (End k) =
    (NoSuchNumber, (k < session_count → ⊥))
    ∷ (SessionNotLive, (Lives s k → ⊥)) ∷ []
reasons d s (Activate k r) =
    (NoSuchNumber, ((k < session_count) × Declared d (Things Role) r → ⊥))
    ∷ (SessionNotLive, (Lives s k → ⊥))
    ∷ (RoleNotHeld, (Holds s k r → ⊥))
    ∷ (RoleUnchanged, s.active k r ≡ true)
    ∷ (SeparatedRolesActive, Clashes d s k r) ∷ []
reasons d s (Deactivate k r) =
    (NoSuchNumber, ((k < session_count) × Declared d (Things Role) r → ⊥))
    ∷ (SessionNotLive, (Lives s k → ⊥))
    ∷ (RoleUnchanged, (s.active k r ≢ true)) ∷ []
reasons d s (Check k v o conditions) =
    (NoSuchNumber, ((k < session_count) × (Declared d (Things Device) v × Declared d (Things Operation) o) → ⊥))
    ∷ (SessionNotLive, (Lives s k → ⊥))
    ∷ (NoSuchPermission, ((p : ℕ) × Permits d v o p → ⊥)) ∷ []

-- a reason with the refusal g is among them, and applies
abbrev pub Applies : List (Refusal × Type 0) → Refusal → Type 0
Applies [] g = ⊥
Applies (r ∷ rs) g = ((r.0 ≡ g) × r.1) ⊎ Applies rs g

-- Of an answer: the reason that it names applies, and none of a lower number does; where it names none, none applies.
abbrev pub Deserved : List (Refusal × Type 0) → Answer → Type 0
Deserved rs Accepted = (h : Refusal) → Applies rs h → ⊥
Deserved rs Granted = (h : Refusal) → Applies rs h → ⊥
Deserved rs Denied = (h : Refusal) → Applies rs h → ⊥
Deserved rs (Refused g) = Applies rs g × ((h : Refusal) → code_of h < code_of g → Applies rs h → ⊥)

-- Every answer is deserved, in every state in which what is assigned or active is declared.
abbrev pub AnswersDeserved : Type 0
AnswersDeserved = (d : Draft) (s : State) → Within d s → (c : Call) → Deserved (reasons d s c) (judge d s c)
