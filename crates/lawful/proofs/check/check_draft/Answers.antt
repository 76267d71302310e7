use Rattle.std.proofs.Common.{◌≡◌, Ok, Err, rules}
use Rattle.lawful.specs.Checking.{checked}
use Rattle.lawful.proofs.Answering.{says}
use Rattle.lawful.proofs.check.check_draft.Goals as goal

pub returns-in-Some : goal.returns-in-Some
returns-in-Some c =
    let e : Err c.refusal.result ≡ checked c.args.draft.now = search rules in
    record { exact = e; words = says c.args.draft.now (Err c.refusal.result) e }

pub returns-in-None : goal.returns-in-None
returns-in-None c =
    let e : Ok tt ≡ checked c.args.draft.now = search rules in
    record { exact = e; words = says c.args.draft.now (Ok tt) e }
