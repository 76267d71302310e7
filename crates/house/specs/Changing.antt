-- How a change is answered: by the reasons that all four share, and then by its own.
use Rattle.std.specs.Prelude.{not, [], ◌∷◌}
use Rattle.refusals.specs.declared.answer.Answer.{Answer}
use Rattle.refusals.specs.declared.answer.Answer.TheVariants.{Accepted, Granted, Denied, Refused}
use Rattle.refusals.specs.declared.refusal.Refusal.TheVariants.{InvalidLease, NoSuchNumber, ProhibitedPair, OutsideTask, AlreadyAssigned, NotAssigned, WouldReachBarredPermission}
use Rattle.rules.specs.Judging.{valid, first_reason, effect, commit}
use Rattle.rules.specs.Reaching.{column_barred}
use Rattle.rules.specs.Spots.{known, prohibited, in_task}
use Rattle.rules.specs.States.{State}
use Rattle.rules.specs.declared.call.Call.TheVariants.{Assign, Revoke}
use Rattle.rules.specs.declared.call.LeaseNumbers.{LeaseNumbers}
use Rattle.rules.specs.declared.call.Spot.{Spot}
use Rattle.tables.specs.declared.draft.Draft.{Draft}

-- the reasons that concern every change under the lease k at the spot x
abbrev pub change_reasons : Draft → State → LeaseNumbers → Spot → Answer
change_reasons d s k x =
    first_reason
    ((InvalidLease, not (valid d s k))
    ∷ (NoSuchNumber, not (known d x))
    ∷ (ProhibitedPair, prohibited d x)
    ∷ (OutsideTask, not (in_task d k.unit x)) ∷ [])
    Accepted

-- the second answer where the first is accepted
abbrev pub and_then : Answer → Answer → Answer
and_then Accepted b = b
and_then Granted b = Granted
and_then Denied b = Denied
and_then (Refused g) b = Refused g

-- an assignment, with the device role of the spot looked at alone
abbrev pub assigning : Draft → State → LeaseNumbers → Spot → Answer
assigning d s k x =
    and_then (change_reasons d s k x)
    (first_reason ((AlreadyAssigned, s.pairs x) ∷ (WouldReachBarredPermission, column_barred d s.pairs x) ∷ []) Accepted)

abbrev pub after_assigning : Draft → State → LeaseNumbers → Spot → State
after_assigning d s k x = commit (assigning d s k x) s (effect s (Assign k x))

abbrev pub revoking : Draft → State → LeaseNumbers → Spot → Answer
revoking d s k x = and_then (change_reasons d s k x) (first_reason ((NotAssigned, not (s.pairs x)) ∷ []) Accepted)

abbrev pub after_revoking : Draft → State → LeaseNumbers → Spot → State
after_revoking d s k x = commit (revoking d s k x) s (effect s (Revoke k x))
