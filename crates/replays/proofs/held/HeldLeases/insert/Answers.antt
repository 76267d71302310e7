use Rattle.std.proofs.Common.{◌≡◌, get_or, Some, None, sym, rules}
use Rattle.replays.proofs.Places.{held_at, held_with}
use Rattle.replays.proofs.held.HeldLeases.insert.Goals as goal

pub returns : goal.returns
returns c =
    let u = c.args.lease.numbers.unit in
    let xs = c.args.self.now.by_unit in
    let e : get_or xs u None ≡ c.replace.result = search rules in
    record {
      answer = λ h. sym (held_at xs u _ h e);
      after = λ h. held_with xs _ u (Some c.args.lease) h (search rules) (search rules);
    }
