use Rattle.std.proofs.Common.{◌≡◌, true, false, ◌&&◌, length, sym, refl, ap, arith, rules}
use Rattle.std.proofs.lemmas.Bool.Decides.{nat_tests}
use Rattle.conditions.specs.Clocks.{timed_at}
use Rattle.conditions.specs.Limits.{condition_count, is_condition, is_window, accepted_if}
use Rattle.conditions.proofs.Timing.{window_refused, window_set}
use Rattle.conditions.proofs.week_clock.WeekClock.set_window.Goals as goal

pub returns-then-condition-ge-CONDITION_COUNT : goal.returns-then-condition-ge-CONDITION_COUNT
returns-then-condition-ge-CONDITION_COUNT c =
    let either = c.then-condition-ge-CONDITION_COUNT.either in
    let f : (is_condition c.args.condition && is_window c.args.from c.args.to) ≡ false = grind (arith, nat_tests) in
    let e = window_refused _ _ _ _ f in
    record { answer = sym (ap accepted_if f); minute = refl; windows = e; after = ap (timed_at _) e }

pub returns : goal.returns
returns c =
    let t : (is_condition c.args.condition && is_window c.args.from c.args.to) ≡ true = grind (arith, nat_tests) in
    let n : length c.args.self.now.windows ≡ condition_count = search rules in
    let e = window_set c.args.self.now.windows c.args.condition c.args.from c.args.to n (omega arith) t in
    record { answer = sym (ap accepted_if t); minute = refl; windows = e; after = ap (timed_at _) e }
