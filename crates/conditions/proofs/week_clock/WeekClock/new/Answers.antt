use Rattle.std.proofs.Common.{refl, ap, ◌∙◌}
use Rattle.conditions.specs.Clocks.{timed_at}
use Rattle.conditions.proofs.Timing.{windows_none, timed_none}
use Rattle.conditions.proofs.week_clock.WeekClock.new.Goals as goal

pub returns : goal.returns
returns c = record { minute = refl; windows = windows_none; holding = ap (timed_at 0) windows_none ∙ timed_none 0 }
