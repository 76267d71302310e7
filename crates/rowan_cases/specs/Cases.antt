-- The cases of Rowan House: openings, calls and what they are answered.
use Rattle.std.specs.Prelude.{◌≡◌, ℕ, List, [], ◌∷◌, ◌++◌, Ok, Err, Result}
use Rattle.lawful.specs.Checking.{checked}
use Rattle.refusals.specs.declared.refusal.Refusal.{Refusal}
use Rattle.refusals.specs.declared.refusal.Refusal.TheVariants.{UnitsOverlap, ProhibitedPairAssigned, NotAdministrator, LeaseOut, ProhibitedPair, OutsideTask, AlreadyAssigned, WouldReachBarredPermission}
use Rattle.tables.specs.declared.draft.Draft.{Draft}
use Rattle.rules.specs.States.{opened}
use Rattle.refusals.specs.declared.answer.Answer.{Answer}
use Rattle.refusals.specs.declared.answer.Answer.TheVariants.{Accepted, Granted, Denied, Refused}
use Rattle.rules.specs.declared.call.Call.{Call}
use Rattle.rules.specs.declared.call.Call.TheVariants.{Acquire, Assign, Revoke, Release, Start, Activate, Check}
use Rattle.rules.specs.declared.call.Event.{Event}
use Rattle.rules.specs.declared.call.LeaseNumbers.{LeaseNumbers}
use Rattle.rules.specs.declared.call.Spot.{Spot}
use Rattle.rules.specs.declared.call.Spot.TheVariants.{RolePair, Permission}
use Rattle.runs.specs.Runs.{log}
use Rattle.rowan_cases.specs.House.{row, neither, only_0, rowan, with_prohibited, with_overlap}

pub record Case : Type 0 where
  pub opening : Draft
  pub calls : List Call
  -- what the calls are answered, or why the opening is refused
  pub expected : Result (List Answer) Refusal

abbrev pub answers_of : List Event → List Answer
answers_of [] = []
answers_of (e ∷ h) = e.answer ∷ answers_of h

abbrev pub opened_or : Result Unit Refusal → List Answer → Result (List Answer) Refusal
opened_or (Ok _) answers = Ok answers
opened_or (Err g) answers = Err g

-- what a case is answered by the rules
abbrev pub played : Case → Result (List Answer) Refusal
played c = opened_or (checked c.opening) (answers_of (log c.opening (opened c.opening) c.calls))

-- the calls of the cases

abbrev pub lease : ℕ → ℕ → LeaseNumbers
lease unit user = record { house = 7; unit = unit; user = user }

-- a change under a lease that is acquired for it and released after it
abbrev pub change : (LeaseNumbers → Call) → ℕ → ℕ → List Call
change call unit user = Acquire unit user ∷ call (lease unit user) ∷ Release (lease unit user) ∷ []

abbrev pub made : List Answer
made = Accepted ∷ Accepted ∷ Accepted ∷ []

abbrev pub not_made : Refusal → List Answer
not_made g = Accepted ∷ Refused g ∷ Accepted ∷ []

-- bob, under the lease of games
abbrev pub by_games : (LeaseNumbers → Call) → List Call
by_games call = change call 0 0

-- bob, under the lease of home
abbrev pub by_home : (LeaseNumbers → Call) → List Call
by_home call = change call 1 0

abbrev pub assigning : Spot → LeaseNumbers → Call
assigning x k = Assign k x

abbrev pub revoking : Spot → LeaseNumbers → Call
revoking x k = Revoke k x

-- cam's session, with the role kid active
abbrev pub kid_session : List Call
kid_session = Start 0 2 ∷ Activate 0 1 ∷ []

-- may cam play on the tv
abbrev pub tv_play : ℕ → Call
tv_play conditions = Check 0 0 0 (row conditions)

abbrev pub evening : ℕ
evening = only_0

abbrev pub from_rowan : List Call → List Answer → Case
from_rowan calls answers = record { opening = rowan; calls = calls; expected = Ok answers }

abbrev pub not_opened : Draft → Refusal → Case
not_opened d g = record { opening = d; calls = []; expected = Err g }

-- the cases, each named by what it shows

abbrev pub denied_before_assignment : Case
denied_before_assignment = from_rowan (kid_session ++ tv_play evening ∷ []) (Accepted ∷ Accepted ∷ Denied ∷ [])

abbrev pub granted_in_the_evening : Case
granted_in_the_evening = from_rowan (kid_session ++ by_games (assigning (RolePair 0 0)) ++ tv_play evening ∷ tv_play neither ∷ []) (Accepted ∷ Accepted ∷ made ++ Granted ∷ Denied ∷ [])

abbrev pub repeated_assignment : Case
repeated_assignment =
    from_rowan (by_games (assigning (RolePair 0 0)) ++ by_games (assigning (RolePair 0 0)) ++ by_games (revoking (RolePair 0 0)) ++ by_games (assigning (RolePair 0 0)))
    (made ++ not_made AlreadyAssigned ++ made ++ made)

abbrev pub prohibited_pair : Case
prohibited_pair = from_rowan (by_games (assigning (RolePair 0 1))) (not_made ProhibitedPair)

abbrev pub kid_would_reach_the_oven : Case
kid_would_reach_the_oven = from_rowan (by_games (assigning (RolePair 2 1))) (not_made WouldReachBarredPermission)

abbrev pub outside_the_task : Case
outside_the_task = from_rowan (by_games (assigning (RolePair 1 0))) (not_made OutsideTask)

-- the same reach is refused from either relation, in either order

abbrev pub permission_after_role_pair : Case
permission_after_role_pair = from_rowan (by_games (assigning (RolePair 2 0)) ++ by_home (assigning (Permission 1 0))) (made ++ not_made WouldReachBarredPermission)

abbrev pub role_pair_after_permission : Case
role_pair_after_permission = from_rowan (by_home (assigning (Permission 1 0)) ++ by_games (assigning (RolePair 2 0))) (made ++ not_made WouldReachBarredPermission)

abbrev pub stranger_and_lease_out : Case
stranger_and_lease_out = from_rowan (Acquire 0 1 ∷ Acquire 1 1 ∷ Acquire 1 0 ∷ Release (lease 1 1) ∷ []) (Refused NotAdministrator ∷ Accepted ∷ Refused LeaseOut ∷ Accepted ∷ [])

abbrev pub opening_with_prohibited_pair : Case
opening_with_prohibited_pair = not_opened with_prohibited ProhibitedPairAssigned

abbrev pub opening_with_overlap : Case
opening_with_overlap = not_opened with_overlap UnitsOverlap

abbrev pub all_cases : List Case
all_cases =
    denied_before_assignment ∷ granted_in_the_evening ∷ repeated_assignment ∷ prohibited_pair ∷ kid_would_reach_the_oven ∷ outside_the_task
    ∷ permission_after_role_pair ∷ role_pair_after_permission ∷ stranger_and_lease_out ∷ opening_with_prohibited_pair ∷ opening_with_overlap ∷ []

abbrev pub Each : List Case → Type 0
Each [] = Unit {0}
Each (c ∷ cs) = (played c ≡ c.expected) × Each cs

-- every case is answered as expected
abbrev pub CasesHold : Type 0
CasesHold = Each all_cases
