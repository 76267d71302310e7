-- What holds of every run: of the draft d that opened the house, the calls, their history and the state s at the end.
use Rattle.std.specs.Prelude.{◌≡◌, ℕ, ◌+◌, true, false, List, ◌∷◌, ◌++◌, Some, ◌≢◌}
use Rattle.lawful.specs.Checking.{is_lawful}
use Rattle.lawful.specs.Keeping.{Declared, In}
use Rattle.rows.specs.declared.row.Row.{Row}
use Rattle.tables.specs.Drafts.{related}
use Rattle.tables.specs.declared.draft.Draft.{Draft}
use Rattle.tables.specs.declared.relation.Relation.TheVariants.{Bars, StaticSeparation, DynamicSeparation, Administrators, ProhibitedPairs, UserRoles}
use Rattle.tables.specs.declared.table.Table.TheVariants.{Things}
use Rattle.tables.specs.declared.table.Thing.{Thing}
use Rattle.tables.specs.declared.table.Thing.TheVariants.{User}
use Rattle.rules.specs.Access.{Permits, Path, HasPath}
use Rattle.rules.specs.Reaching.{role_of}
use Rattle.rules.specs.Reasons.{Holds, reasons, Deserved}
use Rattle.rules.specs.Spots.{in_task}
use Rattle.rules.specs.States.{State, opening_pairs, opened}
use Rattle.refusals.specs.declared.answer.Answer.{Answer}
use Rattle.refusals.specs.declared.answer.Answer.TheVariants.{Accepted, Granted, Denied}
use Rattle.rules.specs.declared.call.Call.{Call}
use Rattle.rules.specs.declared.call.Call.TheVariants.{Acquire, Assign, Revoke, Release, Start, End, Activate, Deactivate, Check}
use Rattle.rules.specs.declared.call.Event.{Event}
use Rattle.rules.specs.declared.call.LeaseNumbers.{LeaseNumbers}
use Rattle.rules.specs.declared.call.Spot.{Spot}
use Rattle.rules.specs.declared.call.Spot.TheVariants.{RolePair, Permission}
use Rattle.runs.specs.Histories.{count, times, assigns, revokes, OutTo, LivesFor, ActiveIn, calls_of, events_of, has_25}
use Rattle.runs.specs.Runs.{final, log, calls_in}

-- a statement about runs holds of every run from every draft that may open
abbrev pub EveryRun : (Draft → List Call → List Event → State → Type 0) → Type 0
EveryRun P = (d : Draft) → is_lawful d ≡ true → (calls : List Call) → P d calls (log d (opened d) calls) (final d (opened d) calls)

-- each of the two says the other
abbrev pub Same : Type 0 → Type 0 → Type 0
Same A B = (A → B) × (B → A)

-- Rules kept: the answers and the final state are those of the rules, from the opening.
pub record RulesKept (d : Draft) (calls : List Call) (history : List Event) (s : State) : Type 0 where
  pub answers : history ≡ log d (opened d) calls
  pub state : s ≡ final d (opened d) calls

-- Counts: the count of a pair at the end and its accepted revocations are its count at the opening and its accepted assignments.
abbrev pub Counts : Draft → List Call → List Event → State → Type 0
Counts d calls history s = (x : Spot) → count (s.pairs x) + times (revokes x) history ≡ count (opening_pairs d x) + times (assigns x) history

-- by the history the lease is out to its user; its unit's task holds the pair, and no other unit's does
pub record Entitled (d : Draft) (k : LeaseNumbers) (x : Spot) (before : List Event) : Type 0 where
  pub house : k.house ≡ d.number
  pub out : OutTo k.unit k.user before
  pub mine : in_task d k.unit x ≡ true
  pub alone : (v : ℕ) → in_task d v x ≡ true → v ≡ k.unit

-- unit and user are declared, the user is an administrator of the unit, and by the history its lease is not out
pub record MayAcquire (d : Draft) (u w : ℕ) (before : List Event) : Type 0 where
  pub unit_declared : Declared d (Things Thing.Unit) u
  pub user_declared : Declared d (Things User) w
  pub administrator : In d Administrators w u
  pub free : (v : ℕ) → OutTo u v before → ⊥

-- what an accepted lease call has behind it
abbrev pub Warranted : Draft → Call → List Event → Type 0
Warranted d (Acquire u w) before = MayAcquire d u w before
Warranted d (Assign k x) before = Entitled d k x before
Warranted d (Revoke k x) before = Entitled d k x before
Warranted d (Release k) before = (k.house ≡ d.number) × OutTo k.unit k.user before
Warranted d (Start k w) before = Unit {0}
Warranted d (End k) before = Unit {0}
Warranted d (Activate k r) before = Unit {0}
Warranted d (Deactivate k r) before = Unit {0}
Warranted d (Check k v o conditions) before = Unit {0}

-- Under lease: wherever an accepted lease call stands in the history, it is warranted by the history before it.
abbrev pub UnderLease : Draft → List Call → List Event → State → Type 0
UnderLease d calls history s = (before later : List Event) (e : Event) → history ≡ before ++ e ∷ later → e.answer ≡ Accepted → Warranted d e.call before

-- None afterwards: at the end nothing is assigned, held or active that may never be.
pub record NoneAfterwards (d : Draft) (calls : List Call) (history : List Event) (s : State) : Type 0 where
  pub no_prohibited : (q e : ℕ) → In d ProhibitedPairs q e → s.pairs (RolePair q e) ≢ true
  pub no_barred : (q e p : ℕ) → s.pairs (RolePair q e) ≡ true → s.pairs (Permission p e) ≡ true → In d Bars p (role_of d q) → ⊥
  pub none_held : (w a b : ℕ) → s.held w a ≡ true → s.held w b ≡ true → In d StaticSeparation a b → ⊥
  pub none_active : (k a b : ℕ) → s.active k a ≡ true → s.active k b ≡ true → In d DynamicSeparation a b → ⊥
  pub active_held : (k r : ℕ) → s.active k r ≡ true → Holds s k r

-- the role r is by the history active in the session k, whose user holds it, and the permission p is not barred to it
pub record Rightful (d : Draft) (s : State) (k r p : ℕ) (before : List Event) : Type 0 where
  pub active : ActiveIn k r before
  pub user : ℕ
  pub lives : LivesFor k user before
  pub holds : s.held user r ≡ true
  pub free : In d Bars p r → ⊥

pub record Used (d : Draft) (s : State) (k device operation : ℕ) (conditions : Row) (answer : Answer) (before : List Event) : Type 0 where
  pub granted : answer ≡ Granted → HasPath d s k device operation conditions
  pub denied : answer ≡ Denied → HasPath d s k device operation conditions → ⊥
  pub rightful : (q e p : ℕ) → Permits d device operation p → Path d s k conditions q e p → Rightful d s k (role_of d q) p before

-- Uses: wherever an access check is granted there is a path, and where it is denied there is none; every path is rightful.
abbrev pub Uses : Draft → List Call → List Event → State → Type 0
Uses d calls history s = (before later : List Event) (k device operation : ℕ) (conditions : Row) (answer : Answer)
    → history ≡ before ++ record { call = Check k device operation conditions; answer = answer } ∷ later
    → Used d (final d (opened d) (calls_in before)) k device operation conditions answer before

-- another run from the same opening ends with the same pairs and leases, and each unit's events are the same
pub record SameByUnit (d : Draft) (history : List Event) (s : State) (others : List Call) : Type 0 where
  pub events : (u : ℕ) → events_of u history ≡ events_of u (log d (opened d) others)
  pub pairs : s.pairs ≡ (final d (opened d) others).pairs
  pub leases : s.lease ≡ (final d (opened d) others).lease

-- Order: the order among units counts for nothing, where neither run has an answer 25.
abbrev pub Order : Draft → List Call → List Event → State → Type 0
Order d calls history s = (others : List Call) → ((u : ℕ) → calls_of u calls ≡ calls_of u others)
    → has_25 history ≡ false → has_25 (log d (opened d) others) ≡ false → SameByUnit d history s others

-- By history: what is read off the history is the state. Who holds which role is as it was at the opening.
pub record ByHistory (d : Draft) (calls : List Call) (history : List Event) (s : State) : Type 0 where
  pub leases : (u w : ℕ) → Same (s.lease u ≡ Some w) (OutTo u w history)
  pub sessions : (k w : ℕ) → Same (s.session k ≡ Some w) (LivesFor k w history)
  pub actives : (k r : ℕ) → Same (s.active k r ≡ true) (ActiveIn k r history)
  pub held : s.held ≡ related d UserRoles

-- Refusals deserved: each answer names the reason of the lowest number that applies there, and none where none applies.
abbrev pub RefusalsDeserved : Draft → List Call → List Event → State → Type 0
RefusalsDeserved d calls history s = (before later : List Event) (e : Event) → history ≡ before ++ e ∷ later
    → Deserved (reasons d (final d (opened d) (calls_in before)) e.call) e.answer
