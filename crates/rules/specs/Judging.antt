-- How a call is answered, and what it changes.
use Rattle.std.specs.Prelude.{ℕ, Bool, cond, not, ◌&&◌, ◌||◌, List, [], ◌∷◌, is_some, Some, None, ◌==◌}
use Rattle.refusals.specs.declared.refusal.Refusal.{Refusal}
use Rattle.refusals.specs.declared.refusal.Refusal.TheVariants.{InvalidLease, NoSuchNumber, NotAdministrator, LeaseOut, ProhibitedPair, OutsideTask, AlreadyAssigned, NotAssigned, WouldReachBarredPermission, SessionLive, SessionNotLive, RoleNotHeld, RoleUnchanged, SeparatedRolesActive, NoSuchPermission}
use Rattle.search.specs.Below.{some_below}
use Rattle.tables.specs.Drafts.{declared, related}
use Rattle.tables.specs.declared.draft.Draft.{Draft}
use Rattle.tables.specs.declared.relation.Relation.TheVariants.{DynamicSeparation, Administrators}
use Rattle.tables.specs.declared.table.Table.TheVariants.{Things}
use Rattle.tables.specs.declared.table.Thing.{Thing}
use Rattle.tables.specs.declared.table.Thing.TheVariants.{User, Role, Device, Operation}
use Rattle.tables.specs.Drafts.{permission_of}
use Rattle.rules.specs.Access.{granted}
use Rattle.rules.specs.Reaching.{reaches_barred_lem}
use Rattle.rules.specs.Spots.{known, prohibited, in_task, with_spot, without_spot}
use Rattle.rules.specs.States.{State, is_session, is_for, holds_role, with_at, with_active, without_active, without_session}
use Rattle.refusals.specs.declared.answer.Answer.{Answer}
use Rattle.refusals.specs.declared.answer.Answer.TheVariants.{Accepted, Granted, Denied, Refused}
use Rattle.rules.specs.declared.call.Call.{Call}
use Rattle.rules.specs.declared.call.Call.TheVariants.{Acquire, Assign, Revoke, Release, Start, End, Activate, Deactivate, Check}
use Rattle.rules.specs.declared.call.LeaseNumbers.{LeaseNumbers}

-- the lease is one of this house, and its unit's lease is out to its user
abbrev pub valid : Draft → State → LeaseNumbers → Bool
valid d s k = k.house == d.number && is_for (s.lease k.unit) k.user

-- dynamic separation pairs the two roles, in either order
abbrev pub parted : Draft → ℕ → ℕ → Bool
parted d a b = related d DynamicSeparation a b || related d DynamicSeparation b a

-- dynamic separation pairs the role r with itself, or with a role that is active in the session k
abbrev pub clashes : Draft → State → ℕ → ℕ → Bool
clashes d s k r = parted d r r || some_below (λ a. s.active k a && parted d r a) 32

-- the reasons that concern a call, in the order in which they are tested, and whether each applies
abbrev pub tests : Draft → State → Call → List (Refusal × Bool)
tests d s (Acquire u w) =
    (NoSuchNumber, not (declared d (Things Thing.Unit) u && declared d (Things User) w))
    ∷ (NotAdministrator, not (related d Administrators w u))
    ∷ (LeaseOut, is_some (s.lease u)) ∷ []
tests d s (Assign k x) =
    (InvalidLease, not (valid d s k))
    ∷ (NoSuchNumber, not (known d x))
    ∷ (ProhibitedPair, prohibited d x)
    ∷ (OutsideTask, not (in_task d k.unit x))
    ∷ (AlreadyAssigned, s.pairs x)
    ∷ (WouldReachBarredPermission, reaches_barred_lem d (with_spot s.pairs x)) ∷ []
tests d s (Revoke k x) =
    (InvalidLease, not (valid d s k))
    ∷ (NoSuchNumber, not (known d x))
    ∷ (ProhibitedPair, prohibited d x)
    ∷ (OutsideTask, not (in_task d k.unit x))
    ∷ (NotAssigned, not (s.pairs x)) ∷ []
tests d s (Release k) = (InvalidLease, not (valid d s k)) ∷ []
tests d s (Start k w) =
    (NoSuchNumber, not (is_session k && declared d (Things User) w))
    ∷ (SessionLive, is_some (s.session k)) ∷ []
tests d s (End k) =
    (NoSuchNumber, not (is_session k))
    ∷ (SessionNotLive, not (is_some (s.session k))) ∷ []
tests d s (Activate k r) =
    (NoSuchNumber, not (is_session k && declared d (Things Role) r))
    ∷ (SessionNotLive, not (is_some (s.session k)))
    ∷ (RoleNotHeld, not (holds_role s.held (s.session k) r))
    ∷ (RoleUnchanged, s.active k r)
    ∷ (SeparatedRolesActive, clashes d s k r) ∷ []
tests d s (Deactivate k r) =
    (NoSuchNumber, not (is_session k && declared d (Things Role) r))
    ∷ (SessionNotLive, not (is_some (s.session k)))
    ∷ (RoleUnchanged, not (s.active k r)) ∷ []
tests d s (Check k v o conditions) =
    (NoSuchNumber, not (is_session k && (declared d (Things Device) v && declared d (Things Operation) o)))
    ∷ (SessionNotLive, not (is_some (s.session k)))
    ∷ (NoSuchPermission, not (is_some (permission_of d v o))) ∷ []

-- the first reason that applies is the refusal; else the answer is a
abbrev pub first_reason : List (Refusal × Bool) → Answer → Answer
first_reason [] a = a
first_reason (t ∷ ts) a = cond t.1 (Refused t.0) (first_reason ts a)

-- the answer where no reason applies
abbrev pub unrefused : Draft → State → Call → Answer
unrefused d s (Acquire u w) = Accepted
unrefused d s (Assign k x) = Accepted
unrefused d s (Revoke k x) = Accepted
unrefused d s (Release k) = Accepted
unrefused d s (Start k w) = Accepted
unrefused d s (End k) = Accepted
unrefused d s (Activate k r) = Accepted
unrefused d s (Deactivate k r) = Accepted
unrefused d s (Check k v o conditions) = cond (granted d s k v o conditions) Granted Denied

-- how a call is answered
abbrev pub judge : Draft → State → Call → Answer
judge d s c = first_reason (tests d s c) (unrefused d s c)

-- what a call changes where it is accepted
abbrev pub effect : State → Call → State
effect s (Acquire u w) = record { pairs = s.pairs; held = s.held; lease = with_at s.lease u (Some w); session = s.session; active = s.active }
effect s (Assign k x) = record { pairs = with_spot s.pairs x; held = s.held; lease = s.lease; session = s.session; active = s.active }
effect s (Revoke k x) = record { pairs = without_spot s.pairs x; held = s.held; lease = s.lease; session = s.session; active = s.active }
effect s (Release k) = record { pairs = s.pairs; held = s.held; lease = with_at s.lease k.unit None; session = s.session; active = s.active }
effect s (Start k w) = record { pairs = s.pairs; held = s.held; lease = s.lease; session = with_at s.session k (Some w); active = without_session s.active k }
effect s (End k) = record { pairs = s.pairs; held = s.held; lease = s.lease; session = with_at s.session k None; active = without_session s.active k }
effect s (Activate k r) = record { pairs = s.pairs; held = s.held; lease = s.lease; session = s.session; active = with_active s.active k r }
effect s (Deactivate k r) = record { pairs = s.pairs; held = s.held; lease = s.lease; session = s.session; active = without_active s.active k r }
effect s (Check k v o conditions) = s

-- the state t where the answer is accepted, and else s as it was
abbrev pub commit : Answer → State → State → State
commit Accepted s t = t
commit Granted s t = s
commit Denied s t = s
commit (Refused g) s t = s

-- the state after a call
abbrev pub after : Draft → State → Call → State
after d s c = commit (judge d s c) s (effect s c)
