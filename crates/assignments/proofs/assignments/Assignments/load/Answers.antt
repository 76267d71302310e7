use Rattle.std.proofs.Common.{◌∙◌}
use Rattle.assignments.proofs.Spots.{draft_assigned}
use Rattle.assignments.proofs.assignments.Assignments.load.Goals as goal

pub returns : goal.returns
returns g c = draft_assigned c.args.draft.now _ _ (c.copy.ensures ∙ c.relation.ensures) (c.copy-2.ensures ∙ c.relation-2.ensures)
