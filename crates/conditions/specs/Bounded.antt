-- No number that is no condition holds: the facts that each source hands to the trait.
use Rattle.std.specs.Prelude.{◌≡◌, ℕ, Bool, true, cond, nat_lt, slice_index_or}
use Rattle.std.proofs.Common.{⊎_elim, sym, ◌∙◌, ap}
use Rattle.std.proofs.lemmas.Bool.{cases_Bool, cond_both, false≢true}
use Rattle.rows.specs.Bounded.{row_bounded}
use Rattle.conditions.specs.Clocks.{timed, timed_at, minute_of, windows_of, windows_in, window}
use Rattle.conditions.specs.Limits.{is_condition}
use Rattle.conditions.specs.Sources.{given, sensed, split_at}
use Rattle.conditions.specs.Windows.{in_window}
use Rattle.conditions.specs.declared.window.Window.{Window}
use Rattle.conditions.specs.declared.condition_set.ConditionSet.{ConditionSet}
use Rattle.conditions.specs.declared.sensor_board.SensorBoard.{SensorBoard}
use Rattle.conditions.specs.declared.week_clock.WeekClock.{WeekClock}

pub given_bounded : (s : ConditionSet) (k : ℕ) → given s k ≡ true → is_condition k ≡ true
given_bounded s = row_bounded s.members

pub sensed_bounded : (s : SensorBoard) (k : ℕ) → sensed s k ≡ true → is_condition k ≡ true
sensed_bounded s = row_bounded s.reported

pub timed_bounded : (s : WeekClock) (k : ℕ) → timed s k ≡ true → is_condition k ≡ true
unfolding timed_at windows_in
timed_bounded s k e = ⊎_elim
    (λ t. t)
    (λ f. let w : windows_of s k ≡ window 0 0 = ap (λ b. cond b (slice_index_or s.windows k (window 0 0)) (window 0 0)) f in
    absurd (false≢true (sym (ap (λ (x : Window). in_window (minute_of s) x.from x.to) w) ∙ e)))
    (cases_Bool (is_condition k))

pub split_bounded : (cut : ℕ) (s t : ℕ → Bool) → ((k : ℕ) → s k ≡ true → is_condition k ≡ true) → ((k : ℕ) → t k ≡ true → is_condition k ≡ true)
    → (k : ℕ) → split_at cut s t k ≡ true → is_condition k ≡ true
unfolding split_at
split_bounded cut s t p q k e = cond_both (nat_lt k cut) (s k) (t k) (λ b. b ≡ true → is_condition k ≡ true) (λ _. p k) (λ _. q k) e
