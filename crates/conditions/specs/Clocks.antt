-- What a week clock shows and means: its minute, the window of each condition, and the conditions that hold.
use Rattle.std.specs.Prelude.{ℕ, Bool, cond, ◌&&◌, List, ◌==◌, slice_index_or}
use Rattle.conditions.specs.Limits.{is_condition, is_minute, is_window}
use Rattle.conditions.specs.Windows.{in_window}
use Rattle.conditions.specs.declared.window.Window.{Window}
use Rattle.conditions.specs.declared.week_clock.WeekClock.{WeekClock}

abbrev pub window : ℕ → ℕ → Window
window from to = record { from = from; to = to }

-- every window is empty
unfoldable pub no_windows : ℕ → Window
no_windows k = window 0 0

abbrev pub minute_of : WeekClock → ℕ
minute_of s = s.minute

-- the window of each condition, and an empty one for any other number
unfoldable pub windows_in : List Window → ℕ → Window
windows_in ws = λ k. cond (is_condition k) (slice_index_or ws k (window 0 0)) (window 0 0)

abbrev pub windows_of : WeekClock → ℕ → Window
windows_of s = windows_in s.windows

-- the conditions whose window the minute m is in
unfoldable pub timed_at : ℕ → (ℕ → Window) → (ℕ → Bool)
timed_at m windows = λ k. in_window m (windows k).from (windows k).to

-- the conditions that hold by the clock
abbrev pub timed : WeekClock → ℕ → Bool
timed s = timed_at (minute_of s) (windows_of s)

-- the minute after a call that sets it to m: the one before where m is none
abbrev pub moved : ℕ → ℕ → ℕ
moved before m = cond (is_minute m) m before

-- the windows after a call that sets the one of the condition n: those before where a number is out of range
unfoldable pub with_window : (ℕ → Window) → ℕ → ℕ → ℕ → (ℕ → Window)
with_window windows n from to = λ k. cond ((is_condition n && is_window from to) && n == k) (window from to) (windows k)
