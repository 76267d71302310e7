-- What a request asks, by the numbers that its fields say. Place 0 is the field behind the record name.
use Rattle.std.specs.Prelude.{ℕ, List, Some, None, Option}
use Rattle.forms.specs.Fields.{value_at_lem, written_flag}
use Rattle.kinds.specs.declared.kind.Kind.{Kind}
use Rattle.kinds.specs.declared.kind.Kind.TheVariants.{Ask}
use Rattle.kinds.specs.declared.kind.Request.{Request}
use Rattle.kinds.specs.declared.kind.Request.TheVariants as says
use Rattle.requests.specs.declared.asked.Asked.{Asked}
use Rattle.requests.specs.declared.asked.Asked.TheVariants.{Start, End, Activate, Drop, CheckAccess, Change, Sense, Clock, Window}
use Rattle.requests.specs.declared.asked.Change.{Change as Way}
use Rattle.requests.specs.declared.asked.Change.TheVariants.{Assign, Revoke}
use Rattle.rules.specs.declared.call.Spot.TheVariants.{RolePair, Permission}
use Rattle.sheets.specs.Numbers.{Lists, number_at, permission_number_lem}
use Rattle.tables.specs.declared.draft.Draft.{Draft}

-- user, unit, role pair, device role
abbrev pub role_pair_change : Lists → Way → Kind → List (List ℕ) → Asked
role_pair_change ls way k vs = Change (number_at ls k vs 0) (number_at ls k vs 1) way (RolePair (number_at ls k vs 2) (number_at ls k vs 3))

-- user, unit, device and operation, device role
abbrev pub permission_change : Lists → Draft → Way → Kind → List (List ℕ) → Asked
permission_change ls d way k vs = Change (number_at ls k vs 0) (number_at ls k vs 1) way (Permission (permission_number_lem ls d k vs) (number_at ls k vs 4))

-- what a request asks of the site; nothing where it is an opening
abbrev pub asked_of : Lists → Draft → Request → List (List ℕ) → Option Asked
asked_of ls d says.Open vs = None
asked_of ls d says.Start vs = Some (Start (number_at ls (Ask says.Start) vs 0) (number_at ls (Ask says.Start) vs 1))
asked_of ls d says.End vs = Some (End (number_at ls (Ask says.End) vs 0))
asked_of ls d says.Activate vs = Some (Activate (number_at ls (Ask says.Activate) vs 0) (number_at ls (Ask says.Activate) vs 1))
asked_of ls d says.Drop vs = Some (Drop (number_at ls (Ask says.Drop) vs 0) (number_at ls (Ask says.Drop) vs 1))
asked_of ls d says.CheckAccess vs = Some (CheckAccess (number_at ls (Ask says.CheckAccess) vs 0) (number_at ls (Ask says.CheckAccess) vs 1) (number_at ls (Ask says.CheckAccess) vs 2))
asked_of ls d says.AssignRolePair vs = Some (role_pair_change ls Assign (Ask says.AssignRolePair) vs)
asked_of ls d says.RevokeRolePair vs = Some (role_pair_change ls Revoke (Ask says.RevokeRolePair) vs)
asked_of ls d says.AssignPermission vs = Some (permission_change ls d Assign (Ask says.AssignPermission) vs)
asked_of ls d says.RevokePermission vs = Some (permission_change ls d Revoke (Ask says.RevokePermission) vs)
asked_of ls d says.Sense vs = Some (Sense (number_at ls (Ask says.Sense) vs 0) (written_flag (value_at_lem vs 1)))
asked_of ls d says.Clock vs = Some (Clock (number_at ls (Ask says.Clock) vs 0))
asked_of ls d says.Window vs = Some (Window (number_at ls (Ask says.Window) vs 0) (number_at ls (Ask says.Window) vs 1) (number_at ls (Ask says.Window) vs 2))
