-- What two runs from the same draft have in common.
use Rattle.std.specs.Prelude.{◌≡◌, ℕ, false, List, Ok, vec_items}
use Rattle.house.specs.Views.{state_of}
use Rattle.rules.specs.States.{State}
use Rattle.rules.specs.declared.call.Call.{Call}
use Rattle.rules.specs.declared.call.Event.{Event}
use Rattle.runs.specs.Histories.{calls_of, events_of, has_25}
use Rattle.tables.specs.declared.draft.Draft.{Draft}
use Rattle.replays.specs.Playing.{Played}
use Rattle.replays.specs.declared.comparing.Comparison.{Comparison}

-- unit by unit the same events, and at the end the same pairs assigned and the same leases out
pub record Alike (h k : List Event) (s t : State) : Type 0 where
  pub events : (u : ℕ) → events_of u h ≡ events_of u k
  pub pairs : s.pairs ≡ t.pairs
  pub leases : s.lease ≡ t.lease

pub record Agreed (calls others : List Call) (h k : List Event) (s t : State) : Type 0 where
  -- the same calls: the same history and the same state
  pub answers : calls ≡ others → h ≡ k
  pub states : calls ≡ others → s ≡ t
  -- the same calls of every unit, in whatever order among the units
  pub by_unit : ((u : ℕ) → calls_of u calls ≡ calls_of u others) → has_25 h ≡ false → has_25 k ≡ false → Alike h k s t

pub record Compared {S T U V : Type 0} {g h k l : _} (d : Draft) (calls others : List Call) (r : Comparison S T U V g h k l) : Type 0 where
  pub one : Played d calls r.one
  pub two : Played d others r.two
  pub agreed : (v w : _) → r.one.history ≡ Ok v → r.two.history ≡ Ok w
      → Agreed calls others (vec_items v) (vec_items w) (state_of r.one.house) (state_of r.two.house)
