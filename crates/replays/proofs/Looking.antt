-- An access check changes nothing.
use Rattle.std.proofs.Common.{◌≡◌, ℕ, refl, ap, ◌∙◌}
use Rattle.refusals.specs.declared.answer.Answer.{Answer}
use Rattle.refusals.specs.declared.answer.Answer.TheVariants.{Accepted, Granted, Denied, Refused}
use Rattle.rows.specs.declared.row.Row.{Row}
use Rattle.rules.specs.Judging.{judge, commit, after}
use Rattle.rules.specs.States.{State}
use Rattle.rules.specs.declared.call.Call.{Call}
use Rattle.rules.specs.declared.call.Call.TheVariants.{Check}
use Rattle.tables.specs.declared.draft.Draft.{Draft}

same_either : (a : Answer) (s : State) → s ≡ commit a s s
same_either Accepted s = refl
same_either Granted s = refl
same_either Denied s = refl
same_either (Refused g) s = refl

pub looked : (d : Draft) (s : State) (k v o : ℕ) (conditions : Row) (c : Call) → Check k v o conditions ≡ c → s ≡ after d s c
looked d s k v o conditions c e = same_either (judge d s (Check k v o conditions)) s ∙ ap (after d s) e
