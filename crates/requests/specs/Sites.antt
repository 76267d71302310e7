-- A site as the rules see it: the house with its state, the reports of the sensors, the clock and its windows.
use Rattle.std.specs.Prelude.{ℕ, Bool, cond, ◌&&◌, nat_le, nat_lt}
use Rattle.conditions.specs.Clocks.{minute_of, windows_of, no_windows, timed_at, with_window}
use Rattle.conditions.specs.Limits.{is_condition}
use Rattle.conditions.specs.Sources.{sensed, with_report, split_at}
use Rattle.conditions.specs.declared.window.Window.{Window}
use Rattle.house.specs.Views.{draft_of, state_of}
use Rattle.rows.specs.Numbers.{no_numbers}
use Rattle.rules.specs.States.{State, opened}
use Rattle.tables.specs.declared.draft.Draft.{Draft}
use Rattle.requests.specs.declared.site.Site.{Site}

pub record Premises : Type 0 where
  -- the draft that opened the house
  pub house : Draft
  pub state : State
  -- the conditions last reported true
  pub board : ℕ → Bool
  -- the minute of the week
  pub minute : ℕ
  -- the window of each condition
  pub windows : ℕ → Window

-- a site, by what the two sets of pairs of its house mean
abbrev pub site_of : {S T : Type 0} {g h : _} → Site S T g h → Premises
site_of s =
    record {
      house = draft_of s.house;
      state = state_of s.house;
      board = sensed s.board;
      minute = minute_of s.clock;
      windows = windows_of s.clock;
    }

-- the house is as opened with the draft d, nothing was reported, and no window is set
abbrev pub fresh : Draft → Premises
fresh d = record { house = d; state = opened d; board = no_numbers; minute = 0; windows = no_windows }

-- the conditions below this are told by sensors, the rest by the clock
abbrev pub sensed_count : ℕ
sensed_count = 16

-- a condition that a sensor tells
abbrev pub is_sensed : ℕ → Bool
is_sensed n = nat_lt n sensed_count

-- a condition that the clock tells
abbrev pub is_timed : ℕ → Bool
is_timed n = nat_le sensed_count n && is_condition n

-- the conditions that hold: by their sensors, and by their windows
abbrev pub holding : Premises → (ℕ → Bool)
holding p = split_at sensed_count p.board (timed_at p.minute p.windows)

-- the board after a report on the condition n: as before where no sensor tells it
abbrev pub reported : (ℕ → Bool) → ℕ → Bool → (ℕ → Bool)
reported s n b = cond (is_sensed n) (with_report s n b) s

-- the windows after the condition n was given one: as before where the clock does not tell it, or there is no such window
abbrev pub given_window : (ℕ → Window) → ℕ → ℕ → ℕ → (ℕ → Window)
given_window windows n from to = cond (is_timed n) (with_window windows n from to) windows
