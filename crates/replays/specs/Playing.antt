-- What comes of a run of a house.
use Rattle.std.specs.Prelude.{◌≡◌, ℕ, true, List, Err, vec_items, MatchResult}
use Rattle.house.specs.Views.{draft_of, state_of, leases_out}
use Rattle.lawful.specs.Checking.{is_lawful, checked}
use Rattle.rules.specs.States.{State, opened}
use Rattle.rules.specs.declared.call.Call.{Call}
use Rattle.rules.specs.declared.call.Event.{Event}
use Rattle.runs.specs.Law.{Law}
use Rattle.tables.specs.Drafts.{Empty}
use Rattle.tables.specs.declared.draft.Draft.{Draft}
use Rattle.replays.specs.Holding.{held_of}
use Rattle.replays.specs.Ties.{lease_for}
use Rattle.replays.specs.declared.run.Failure.{Failure}
use Rattle.replays.specs.declared.run.Failure.TheVariants.{Refused, NoMemory}
use Rattle.replays.specs.declared.run.Run.{Run}

-- the house of the draft e in the state s was opened with the draft d, and the law holds of the calls and their history
pub record Ran (d : Draft) (calls : List Call) (e : Draft) (history : List Event) (s : State) : Type 0 where
  pub lawful : is_lawful d ≡ true
  pub draft : e ≡ d
  pub law : Law d calls history s

-- no call was made: the draft may not open, and the house is as one never opened; or memory is short, and it is as just opened
abbrev pub NotRun : Draft → Draft → State → Failure → Type 0
NotRun d e s (Refused g) = (checked d ≡ Err g) × Empty e × (s ≡ opened e)
NotRun d e s NoMemory = (is_lawful d ≡ true) × (e ≡ d) × (s ≡ opened d)

-- what a run with the draft d and the calls left
pub record Played {S T : Type 0} {g h : _} (d : Draft) (calls : List Call) (r : Run S T g h) : Type 0 where
  pub run : MatchResult r.history (λ v. Ran d calls (draft_of r.house) (vec_items v) (state_of r.house)) (NotRun d (draft_of r.house) (state_of r.house))
  -- the leases handed back are those that are out
  pub held : (u : ℕ) → held_of r.held u ≡ lease_for (draft_of r.house).number u (leases_out r.house u)
