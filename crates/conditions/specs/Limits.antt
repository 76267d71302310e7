-- The numbers that a condition source takes, and how it answers the others.
use Rattle.std.specs.Prelude.{ℕ, Bool, true, false, ◌&&◌, Ok, Err, Result, nat_le, nat_lt}
use Rattle.refusals.specs.declared.refusal.Refusal.{Refusal}
use Rattle.refusals.specs.declared.refusal.Refusal.TheVariants.{NoSuchNumber}

-- conditions are numbered below this
abbrev pub condition_count : ℕ
condition_count = 32

-- the last minute of the week, counted from 0
abbrev pub last_minute : ℕ
last_minute = 10079

-- the minute at which the latest windows end
abbrev pub week_end : ℕ
week_end = 10080

abbrev pub is_condition : ℕ → Bool
is_condition k = nat_lt k condition_count

abbrev pub is_minute : ℕ → Bool
is_minute m = nat_le m last_minute

-- the two ends of a window: it starts at a minute of the week, and ends at one or with the week
abbrev pub is_window : ℕ → ℕ → Bool
is_window from to = is_minute from && nat_le to week_end

-- the answer of a call that is refused unless its numbers are in range
abbrev pub accepted_if : Bool → Result Unit Refusal
accepted_if true = Ok tt
accepted_if false = Err NoSuchNumber
