-- What a set given outright, a sensor board and a joined source mean: the conditions that hold.
use Rattle.std.specs.Prelude.{ℕ, Bool, cond, ◌&&◌, ◌==◌, nat_lt}
use Rattle.rows.specs.Rows.{numbers}
use Rattle.conditions.specs.Limits.{is_condition}
use Rattle.conditions.specs.declared.condition_set.ConditionSet.{ConditionSet}
use Rattle.conditions.specs.declared.joined.Joined.{Joined}
use Rattle.conditions.specs.declared.sensor_board.SensorBoard.{SensorBoard}

-- the conditions of a set
abbrev pub given : ConditionSet → ℕ → Bool
given s = numbers s.members

-- the conditions last reported true
abbrev pub sensed : SensorBoard → ℕ → Bool
sensed s = numbers s.reported

-- what holds after a report that the condition n holds, or does not: nothing else changes, and no number that is no condition counts
unfoldable pub with_report : (ℕ → Bool) → ℕ → Bool → (ℕ → Bool)
with_report s n b = λ k. cond (is_condition n && n == k) b (s k)

-- the conditions of one source below the cut, and those of another from there on
unfoldable pub split_at : ℕ → (ℕ → Bool) → (ℕ → Bool) → (ℕ → Bool)
split_at cut s t = λ k. cond (nat_lt k cut) (s k) (t k)

-- the conditions of a joined source, by what its two sources mean
abbrev pub joined : {C D : Type 0} → (C → ℕ → Bool) → (D → ℕ → Bool) → Joined C D → ℕ → Bool
joined lower upper s = split_at s.cut (lower s.below.now) (upper s.above.now)
