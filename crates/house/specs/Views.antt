-- A house as the rules see it: the draft that opened it, and its state.
use Rattle.std.specs.Prelude.{ℕ, Bool, cond, ◌||◌, is_some, Err, Option, Result}
use Rattle.assignments.specs.Assigned.{assigned}
use Rattle.lawful.specs.Checking.{checked}
use Rattle.refusals.specs.declared.answer.Answer.{Answer}
use Rattle.refusals.specs.declared.refusal.Refusal.{Refusal}
use Rattle.refusals.specs.declared.refusal.Refusal.TheVariants.{HouseInUse}
use Rattle.rules.specs.Judging.{judge, after}
use Rattle.rules.specs.Spots.{Pairs}
use Rattle.rules.specs.States.{State}
use Rattle.rules.specs.declared.call.Call.{Call}
use Rattle.search.specs.Below.{some_below}
use Rattle.stores.specs.Rows.{pairs_in}
use Rattle.tables.specs.declared.draft.Draft.{Draft}
use Rattle.house_parts.specs.Holding.{holder_of, user_of, active_of}
use Rattle.house.specs.declared.house.House.{House}

-- the draft that opened the house
abbrev pub draft_of : {S T : Type 0} {g h : _} → House S T g h → Draft
draft_of house = house.draft

-- the state of a house, by what its two sets of pairs mean
abbrev pub state_of : {S T : Type 0} {g h : _} → House S T g h → State
state_of {g = g} {h = h} house =
    record {
      pairs = assigned g.pairs h.pairs house.assignments;
      held = pairs_in house.user_roles;
      lease = holder_of house.leases;
      session = user_of house.sessions;
      active = active_of house.sessions;
    }

-- the state with other pairs assigned
abbrev pub with_pairs : State → Pairs → State
with_pairs s p = record { pairs = p; held = s.held; lease = s.lease; session = s.session; active = s.active }

-- how the rules answer a call on the house
abbrev pub answer_of : {S T : Type 0} {g h : _} → House S T g h → Call → Answer
answer_of house c = judge (draft_of house) (state_of house) c

-- the state of the house after a call, by the rules
abbrev pub state_after : {S T : Type 0} {g h : _} → House S T g h → Call → State
state_after house c = after (draft_of house) (state_of house) c

-- a lease is out, or a session lives
abbrev pub in_use : State → Bool
in_use s = some_below (λ u. is_some (s.lease u)) 16 || some_below (λ k. is_some (s.session k)) 16

-- what an opening with the draft d answers
abbrev pub opening : State → Draft → Result Unit Refusal
opening s d = cond (in_use s) (Err HouseInUse) (checked d)

-- to whom the lease of each unit is out
abbrev pub leases_out : {S T : Type 0} {g h : _} → House S T g h → ℕ → Option ℕ
leases_out house = holder_of house.leases
