-- The law of runs as a whole.
use Rattle.std.specs.Prelude.{◌≡◌, true, List}
use Rattle.lawful.specs.Checking.{is_lawful}
use Rattle.tables.specs.declared.draft.Draft.{Draft}
use Rattle.rules.specs.States.{State, opened}
use Rattle.rules.specs.declared.call.Call.{Call}
use Rattle.rules.specs.declared.call.Event.{Event}
use Rattle.runs.specs.Laws.{RulesKept, Counts, UnderLease, NoneAfterwards, Uses, Order, ByHistory, RefusalsDeserved}
use Rattle.runs.specs.Runs.{final, log}

pub record Law (d : Draft) (calls : List Call) (history : List Event) (s : State) : Type 0 where
  pub rules_kept : RulesKept d calls history s
  pub counts : Counts d calls history s
  pub under_lease : UnderLease d calls history s
  pub none_afterwards : NoneAfterwards d calls history s
  pub uses : Uses d calls history s
  pub order : Order d calls history s
  pub by_history : ByHistory d calls history s
  pub refusals_deserved : RefusalsDeserved d calls history s

-- a replay of the calls from the state o: by the rules, and from an opening with a lawful draft by the whole law
pub record Replayed (d : Draft) (o : State) (calls : List Call) (history : List Event) (s : State) : Type 0 where
  pub answers : history ≡ log d o calls
  pub state : s ≡ final d o calls
  pub law : o ≡ opened d → is_lawful d ≡ true → Law d calls history s
