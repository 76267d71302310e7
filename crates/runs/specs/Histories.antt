-- What a history tells: its events are the calls of a run with their answers, oldest first.
use Rattle.std.specs.Prelude.{◌≡◌, ℕ, ◌+◌, Bool, true, false, cond, ◌&&◌, ◌||◌, List, [], ◌∷◌, ◌++◌, ◌==◌}
use Rattle.refusals.specs.Codes.{code_of}
use Rattle.rules.specs.Spots.{same_spot}
use Rattle.refusals.specs.declared.answer.Answer.{Answer}
use Rattle.refusals.specs.declared.answer.Answer.TheVariants.{Accepted, Granted, Denied, Refused}
use Rattle.rules.specs.declared.call.Call.{Call}
use Rattle.rules.specs.declared.call.Call.TheVariants.{Acquire, Assign, Revoke, Release, Start, End, Activate, Deactivate, Check}
use Rattle.rules.specs.declared.call.Event.{Event}
use Rattle.rules.specs.declared.call.Spot.{Spot}

abbrev pub is_accepted : Answer → Bool
is_accepted Accepted = true
is_accepted Granted = false
is_accepted Denied = false
is_accepted (Refused g) = false

-- an accepted call of the kind that the test picks
abbrev pub accepted_one : (Call → Bool) → Event → Bool
accepted_one f e = is_accepted e.answer && f e.call

-- 1 for a pair that is assigned, else 0
abbrev pub count : Bool → ℕ
count true = 1
count false = 0

-- how many accepted calls the test picks
abbrev pub times : (Call → Bool) → List Event → ℕ
times f [] = 0
times f (e ∷ h) = count (accepted_one f e) + times f h

-- the test picks no accepted call
abbrev pub Never : (Call → Bool) → List Event → Type 0
Never f [] = Unit {0}
Never f (e ∷ h) = (accepted_one f e ≡ false) × Never f h

-- by the history it was started by an accepted call, and no accepted call has ended it since
pub record Since (starts ends : Call → Bool) (history : List Event) : Type 0 where
  pub before : List Event
  pub start : Call
  pub since : List Event
  pub parts : history ≡ before ++ record { call = start; answer = Accepted } ∷ since
  pub began : starts start ≡ true
  pub still : Never ends since

-- the call assigns the spot x
abbrev pub assigns : Spot → Call → Bool
assigns x (Acquire v w) = false
assigns x (Assign k y) = same_spot y x
assigns x (Revoke k y) = false
assigns x (Release k) = false
assigns x (Start j w) = false
assigns x (End j) = false
assigns x (Activate j r) = false
assigns x (Deactivate j r) = false
assigns x (Check j v o conditions) = false

abbrev pub revokes : Spot → Call → Bool
revokes x (Acquire v w) = false
revokes x (Assign k y) = false
revokes x (Revoke k y) = same_spot y x
revokes x (Release k) = false
revokes x (Start j w) = false
revokes x (End j) = false
revokes x (Activate j r) = false
revokes x (Deactivate j r) = false
revokes x (Check j v o conditions) = false

-- the user w acquires the lease of the unit u
abbrev pub acquires : ℕ → ℕ → Call → Bool
acquires u w (Acquire v x) = v == u && x == w
acquires u w (Assign k y) = false
acquires u w (Revoke k y) = false
acquires u w (Release k) = false
acquires u w (Start j x) = false
acquires u w (End j) = false
acquires u w (Activate j r) = false
acquires u w (Deactivate j r) = false
acquires u w (Check j v o conditions) = false

abbrev pub releases : ℕ → Call → Bool
releases u (Acquire v x) = false
releases u (Assign k y) = false
releases u (Revoke k y) = false
releases u (Release k) = k.unit == u
releases u (Start j x) = false
releases u (End j) = false
releases u (Activate j r) = false
releases u (Deactivate j r) = false
releases u (Check j v o conditions) = false

-- the session k starts for the user w
abbrev pub starts_for : ℕ → ℕ → Call → Bool
starts_for k w (Acquire v x) = false
starts_for k w (Assign l y) = false
starts_for k w (Revoke l y) = false
starts_for k w (Release l) = false
starts_for k w (Start j x) = j == k && x == w
starts_for k w (End j) = false
starts_for k w (Activate j r) = false
starts_for k w (Deactivate j r) = false
starts_for k w (Check j v o conditions) = false

abbrev pub ends_session : ℕ → Call → Bool
ends_session k (Acquire v x) = false
ends_session k (Assign l y) = false
ends_session k (Revoke l y) = false
ends_session k (Release l) = false
ends_session k (Start j x) = false
ends_session k (End j) = j == k
ends_session k (Activate j r) = false
ends_session k (Deactivate j r) = false
ends_session k (Check j v o conditions) = false

-- the role r is activated in the session k
abbrev pub activates : ℕ → ℕ → Call → Bool
activates k r (Acquire v x) = false
activates k r (Assign l y) = false
activates k r (Revoke l y) = false
activates k r (Release l) = false
activates k r (Start j x) = false
activates k r (End j) = false
activates k r (Activate j a) = j == k && a == r
activates k r (Deactivate j a) = false
activates k r (Check j v o conditions) = false

-- the role r is dropped in the session k, or the session ends
abbrev pub drops : ℕ → ℕ → Call → Bool
drops k r (Acquire v x) = false
drops k r (Assign l y) = false
drops k r (Revoke l y) = false
drops k r (Release l) = false
drops k r (Start j x) = false
drops k r (End j) = j == k
drops k r (Activate j a) = false
drops k r (Deactivate j a) = j == k && a == r
drops k r (Check j v o conditions) = false

-- by the history, the lease of the unit u is out to the user w
abbrev pub OutTo : ℕ → ℕ → List Event → Type 0
OutTo u w = Since (acquires u w) (releases u)

-- by the history, the session k lives for the user w
abbrev pub LivesFor : ℕ → ℕ → List Event → Type 0
LivesFor k w = Since (starts_for k w) (ends_session k)

-- by the history, the role r is active in the session k
abbrev pub ActiveIn : ℕ → ℕ → List Event → Type 0
ActiveIn k r = Since (activates k r) (drops k r)

-- a lease call of the unit u
abbrev pub is_of : ℕ → Call → Bool
is_of u (Acquire v x) = v == u
is_of u (Assign k y) = k.unit == u
is_of u (Revoke k y) = k.unit == u
is_of u (Release k) = k.unit == u
is_of u (Start j x) = false
is_of u (End j) = false
is_of u (Activate j r) = false
is_of u (Deactivate j r) = false
is_of u (Check j v o conditions) = false

-- the calls, and the events, of one unit
abbrev pub calls_of : ℕ → List Call → List Call
calls_of u [] = []
calls_of u (c ∷ cs) = cond (is_of u c) (c ∷ calls_of u cs) (calls_of u cs)

abbrev pub events_of : ℕ → List Event → List Event
events_of u [] = []
events_of u (e ∷ h) = cond (is_of u e.call) (e ∷ events_of u h) (events_of u h)

-- the answer is 25: the assignment would let a role reach a permission barred to it
abbrev pub is_25 : Answer → Bool
is_25 Accepted = false
is_25 Granted = false
is_25 Denied = false
is_25 (Refused g) = code_of g == 25

abbrev pub has_25 : List Event → Bool
has_25 [] = false
has_25 (e ∷ h) = is_25 e.answer || has_25 h
