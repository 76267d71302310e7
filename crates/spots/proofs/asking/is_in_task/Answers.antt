use Rattle.std.proofs.Common.{sym, ap, ◌∙◌}
use Rattle.lawful.specs.Tasks.{held_by}
use Rattle.rules.specs.Spots.{in_task}
use Rattle.spots.proofs.Holders.{holder_tells}
use Rattle.spots.proofs.asking.is_in_task.Goals.{in-RolePair, in-Permission}
use Rattle.spots.proofs.asking.is_in_task.Goals as goal

pub returns-in-Some : goal.returns-in-Some
returns-in-Some c =
    let d = c.args.draft.now in
    let t = c.match-spot.task in
    holder_tells d t.0 t.1 t.2 c.args.unit c.requires c.in-Some.holder c.in-Some.ensures.words
    ∙ elim c.match-spot.branch [
      | in-RolePair w ↦ ap (λ x. held_by d x.0 x.1 x.2 c.args.unit) w.task-is ∙ sym (ap (in_task d c.args.unit) w.in-RolePair.is)
      | in-Permission w ↦ ap (λ x. held_by d x.0 x.1 x.2 c.args.unit) w.task-is ∙ sym (ap (in_task d c.args.unit) w.in-Permission.is)
    ]
