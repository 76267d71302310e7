use Rattle.std.proofs.Common.{◌≡◌, rules}
use Rattle.search.specs.Firsts.{first_below}
use Rattle.lawful.specs.Tasks.{held_by}
use Rattle.lawful.proofs.Holding.{holder_is}
use Rattle.lawful.proofs.task.unit_of.Goals as goal

pub returns : goal.returns
returns c =
    let d = c.args.draft.now in
    let e : c.first.result ≡ first_below (held_by d c.args.task c.args.left c.args.device_role) 32 = search rules in
    record { exact = e; words = holder_is d c.args.task c.args.left c.args.device_role _ e }
