-- A house with the leases that are out of it, as the rules see it.
use Rattle.house.specs.Views.{draft_of, state_of}
use Rattle.rules.specs.States.{State}
use Rattle.tables.specs.declared.draft.Draft.{Draft}
use Rattle.replays.specs.declared.keeper.Keeper.{Keeper}

abbrev pub draft_in : {S T : Type 0} {g h : _} → Keeper S T g h → Draft
draft_in k = draft_of k.house

abbrev pub state_in : {S T : Type 0} {g h : _} → Keeper S T g h → State
state_in k = state_of k.house
