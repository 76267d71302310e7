use Rattle.std.proofs.Common.{◌≡◌, length, rules, tests}
use Rattle.conditions.specs.Limits.{condition_count}
use Rattle.conditions.proofs.Timing.{timed_get, timed_words}
use Rattle.conditions.proofs.week_clock.WeekClockConditions.holds.Goals as goal

pub returns : goal.returns
returns c =
    let n : length c.args.self.now.windows ≡ condition_count = search rules in
    let e = timed_get c.args.self.now.minute c.args.self.now.windows c.args.condition c.get.result _ n c.get.ensures.lookup (search (rules, tests)) in
    record { exact = e; words = timed_words _ _ _ _ e }
