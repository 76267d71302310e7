-- The calls that a request makes on the house.
use Rattle.std.specs.Prelude.{ℕ, zero, suc, Bool, cond, List, [], ◌∷◌}
use Rattle.refusals.specs.declared.answer.Answer.{Answer}
use Rattle.refusals.specs.declared.answer.Answer.TheVariants.{Accepted, Granted, Denied, Refused}
use Rattle.rows.specs.Rows.{empty_row, row_with}
use Rattle.rows.specs.declared.row.Row.{Row}
use Rattle.rules.specs.Judging.{judge}
use Rattle.rules.specs.States.{State}
use Rattle.rules.specs.declared.call.Call.{Call}
use Rattle.rules.specs.declared.call.LeaseNumbers.{LeaseNumbers}
use Rattle.rules.specs.declared.call.Spot.{Spot}
use Rattle.tables.specs.declared.draft.Draft.{Draft}
use Rattle.requests.specs.Sites.{Premises, holding}
use Rattle.requests.specs.declared.asked.Asked.{Asked}
use Rattle.requests.specs.declared.asked.Asked.TheVariants.{Start, End, Activate, Drop, CheckAccess, Change, Sense, Clock, Window}
use Rattle.requests.specs.declared.asked.Change.{Change as Way}
use Rattle.requests.specs.declared.asked.Change.TheVariants.{Assign, Revoke}

-- the row of the numbers below n of which f says true, put in one after another
unfoldable pub gathered_below : (ℕ → Bool) → ℕ → Row
gathered_below f zero = empty_row
gathered_below f (suc n) = cond (f n) (row_with (gathered_below f n) n) (gathered_below f n)

-- the row of all such numbers
abbrev pub gathered : (ℕ → Bool) → Row
gathered f = gathered_below f 32

-- an access check under the conditions that hold
abbrev pub check_call : (ℕ → Bool) → ℕ → ℕ → ℕ → Call
check_call holds session device operation = Call.Check session device operation (gathered holds)

-- a change under the lease k
abbrev pub change_call : Way → LeaseNumbers → Spot → Call
change_call Assign k x = Call.Assign k x
change_call Revoke k x = Call.Revoke k x

-- the lease that an accepted acquire gives
abbrev pub lease_for : Draft → ℕ → ℕ → LeaseNumbers
lease_for d user unit = record { house = d.number; unit = unit; user = user }

-- the calls, if the answer before them is accepted
abbrev pub if_accepted : Answer → List Call → List Call
if_accepted Accepted calls = calls
if_accepted Granted calls = []
if_accepted Denied calls = []
if_accepted (Refused g) calls = []

-- a change under the lease of the unit, and the lease's release
abbrev pub under_lease : Draft → ℕ → ℕ → Way → Spot → List Call
under_lease d user unit way x = change_call way (lease_for d user unit) x ∷ Call.Release (lease_for d user unit) ∷ []

-- a change acquires the lease of the unit; where it gets it, it makes the change and releases the lease
abbrev pub change_calls : Draft → State → ℕ → ℕ → Way → Spot → List Call
change_calls d s user unit way x = Call.Acquire unit user ∷ if_accepted (judge d s (Call.Acquire unit user)) (under_lease d user unit way x)

-- the calls of a request
abbrev pub calls_for : Premises → Asked → List Call
calls_for p (Start k w) = Call.Start k w ∷ []
calls_for p (End k) = Call.End k ∷ []
calls_for p (Activate k r) = Call.Activate k r ∷ []
calls_for p (Drop k r) = Call.Deactivate k r ∷ []
calls_for p (CheckAccess k v o) = check_call (holding p) k v o ∷ []
calls_for p (Change w u way x) = change_calls p.house p.state w u way x
calls_for p (Sense n b) = []
calls_for p (Clock m) = []
calls_for p (Window n from to) = []
