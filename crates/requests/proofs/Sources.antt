-- What tells which conditions hold.
use Rattle.std.proofs.Common.{◌≡◌, ℕ, ◌≤◌, Bool, true, false, cond, ◌&&◌, eqb, ltb, sym, refl, ap, ◌∙◌}
use mathlib.Core.Path.{fun_ext}
use Rattle.conditions.specs.Bounded.{sensed_bounded, timed_bounded, split_bounded}
use Rattle.conditions.specs.Clocks.{timed, window, with_window}
use Rattle.conditions.specs.Limits.{is_condition, is_window, accepted_if}
use Rattle.conditions.specs.Sources.{sensed, split_at}
use Rattle.conditions.specs.declared.sensor_board.SensorBoard.{SensorBoard}
use Rattle.conditions.specs.declared.week_clock.WeekClock.{WeekClock}
use Rattle.conditions.specs.declared.window.Window.{Window}
use Rattle.rows.specs.Rows.{numbers}
use Rattle.std.proofs.lemmas.Bool.{cond-true, cond-false, lt-ltb, le-ltb, le-leb}
use Rattle.requests.specs.Calls.{gathered}
use Rattle.requests.specs.Laws.{ChecksSeeBoth}
use Rattle.requests.specs.Sites.{sensed_count, is_timed, given_window}
use Rattle.requests.proofs.Gathering.{gathered_is}

-- the row of the conditions that hold by a board and a clock
pub conditions_are : (board : SensorBoard) (clock : WeekClock) (source : ℕ → Bool)
    → source ≡ split_at sensed_count (sensed board) (timed clock)
    → numbers (gathered (split_at sensed_count (sensed board) (timed clock))) ≡ source
conditions_are board clock source e =
    gathered_is _ (split_bounded sensed_count (sensed board) (timed clock) (sensed_bounded board) (timed_bounded clock)) ∙ sym e

pub checks_see_both_lem : ChecksSeeBoth
unfolding split_at
checks_see_both_lem board clock =
    let e = conditions_are board clock _ refl in
    record {
      by_board = λ n h. ap (λ s. s n) e ∙ cond-true (ltb n sensed_count) (sensed board n) (timed clock n) (lt-ltb n sensed_count h);
      by_clock = λ n h. ap (λ s. s n) e ∙ cond-false (ltb n sensed_count) (sensed board n) (timed clock n) (le-ltb n sensed_count h);
    }

-- a condition that no sensor tells is given its window
module _ (n from to : ℕ) (h : sensed_count ≤ n) where
  told_by_clock : is_condition n ≡ is_timed n
  told_by_clock = ap (λ b. b && is_condition n) (sym (le-leb sensed_count n h))

  pub window_answer : accepted_if (is_condition n && is_window from to) ≡ accepted_if (is_timed n && is_window from to)
  window_answer = ap (λ b. accepted_if (b && is_window from to)) told_by_clock

  pub window_left : (ws : ℕ → Window) → with_window ws n from to ≡ given_window ws n from to
  unfolding with_window
  window_left ws = by (is_condition n) refl ∙ ap (λ b. cond b (with_window ws n from to) ws) told_by_clock
    where
      by : (b : Bool) → is_condition n ≡ b → with_window ws n from to ≡ cond b (with_window ws n from to) ws
      by true e = refl
      by false e = fun_ext λ k. ap (λ b. cond ((b && is_window from to) && eqb n k) (window from to) (ws k)) e
