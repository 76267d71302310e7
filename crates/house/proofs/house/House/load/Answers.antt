use Rattle.std.proofs.Common.{refl}
use Rattle.house.proofs.Empties.{opens, loaded_sound}
use Rattle.house.proofs.house.House.load.Goals as goal

pub invariant_of-self : goal.invariant_of-self
invariant_of-self g c = record { lawful = c.requires; sound = loaded_sound c.args.draft.now _ c.requires c.load.ensures }

pub returns : goal.returns
returns g c =
    record {
      draft = refl;
      state = opens c.args.draft.now _ _ _ _ _ c.load.ensures c.relation.ensures c.new-self.ensures c.new-self-2.ensures.users c.new-self-2.ensures.active;
    }
