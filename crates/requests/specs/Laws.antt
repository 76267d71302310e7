-- What requests come to, in words.
use Rattle.std.specs.Prelude.{◌≡◌, ℕ, ◌<◌, ◌≤◌, List, [], ◌∷◌, ◌≢◌}
use Rattle.conditions.specs.Clocks.{timed}
use Rattle.conditions.specs.Sources.{sensed, split_at}
use Rattle.conditions.specs.declared.sensor_board.SensorBoard.{SensorBoard}
use Rattle.conditions.specs.declared.week_clock.WeekClock.{WeekClock}
use Rattle.refusals.specs.declared.answer.Answer.TheVariants.{Accepted}
use Rattle.rows.specs.Rows.{numbers}
use Rattle.rows.specs.declared.row.Row.{Row}
use Rattle.rules.specs.Spots.{Pairs, with_spot, without_spot}
use Rattle.rules.specs.declared.call.Call.{Call}
use Rattle.rules.specs.declared.call.Event.{Event}
use Rattle.rules.specs.declared.call.Spot.{Spot}
use Rattle.runs.specs.Runs.{log}
use Rattle.requests.specs.Answering.{answer_to, after_asked}
use Rattle.requests.specs.Calls.{gathered, under_lease}
use Rattle.requests.specs.Sites.{Premises, sensed_count}
use Rattle.requests.specs.declared.asked.Asked.{Asked}
use Rattle.requests.specs.declared.asked.Change.{Change as Way}
use Rattle.requests.specs.declared.asked.Change.TheVariants.{Assign, Revoke}

-- every call of the history was accepted
abbrev pub AllAccepted : List Event → Type 0
AllAccepted [] = Unit {0}
AllAccepted (e ∷ h) = (e.answer ≡ Accepted) × AllAccepted h

-- the pairs with the one of the spot assigned, or not
abbrev pub changed_pairs : Way → Pairs → Spot → Pairs
changed_pairs Assign s x = with_spot s x
changed_pairs Revoke s x = without_spot s x

-- the site with that pair changed, and nothing else
abbrev pub with_change : Premises → Way → Spot → Premises
with_change p way x =
    record {
      house = p.house;
      state = record { pairs = changed_pairs way p.state.pairs x; held = p.state.held; lease = p.state.lease; session = p.state.session; active = p.state.active };
      board = p.board;
      minute = p.minute;
      windows = p.windows;
    }

-- the history of an acquire, a change and a release, whatever each is answered
abbrev pub three_calls : Premises → ℕ → ℕ → Way → Spot → List Event
three_calls p user unit way x = log p.house p.state (Call.Acquire unit user ∷ under_lease p.house user unit way x)

-- A change is accepted exactly where all its three calls are; then it changes its pair and nothing else.
-- Any other leaves everything as it was.
pub record StandsAlone (p : Premises) (user unit : ℕ) (way : Way) (x : Spot) : Type 0 where
  pub by_three : answer_to p (Asked.Change user unit way x) ≡ Accepted → AllAccepted (three_calls p user unit way x)
  pub from_three : AllAccepted (three_calls p user unit way x) → answer_to p (Asked.Change user unit way x) ≡ Accepted
  pub made : answer_to p (Asked.Change user unit way x) ≡ Accepted → after_asked p (Asked.Change user unit way x) ≡ with_change p way x
  pub left : (answer_to p (Asked.Change user unit way x) ≢ Accepted) → after_asked p (Asked.Change user unit way x) ≡ p

abbrev pub ChangesStandAlone : Type 0
ChangesStandAlone = (p : Premises) (user unit : ℕ) (way : Way) (x : Spot) → StandsAlone p user unit way x

-- Every request leaves each unit's lease as it was before: a lease that it acquires comes back.
abbrev pub LeasesComeBack : Type 0
LeasesComeBack = (p : Premises) (a : Asked) → (after_asked p a).state.lease ≡ p.state.lease

-- In words: below the first that the clock tells, a condition is among them where the board has it reported true; from there on, where its window is now.
pub record ByBoth (board : SensorBoard) (clock : WeekClock) (conditions : Row) : Type 0 where
  pub by_board : (n : ℕ) → n < sensed_count → numbers conditions n ≡ sensed board n
  pub by_clock : (n : ℕ) → sensed_count ≤ n → numbers conditions n ≡ timed clock n

-- An access check is judged under exactly the conditions that sensors and clock tell.
abbrev pub ChecksSeeBoth : Type 0
ChecksSeeBoth = (board : SensorBoard) (clock : WeekClock) → ByBoth board clock (gathered (split_at sensed_count (sensed board) (timed clock)))
