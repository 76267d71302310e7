use Rattle.std.proofs.Common.{sym, ◌∙◌}
use Rattle.tables.specs.declared.relation.Relation.TheVariants.{UserRoles}
use Rattle.house.proofs.Empties.{empty_lawful, nothing_opens, loaded_sound, opens}
use Rattle.house.proofs.house.House.new.Goals as goal

pub invariant_of-result : goal.invariant_of-result
invariant_of-result g c =
    let d = c.new.result in
    let e = c.new.ensures in
    let h = empty_lawful d e in
    record { lawful = h; sound = loaded_sound d _ h (c.new-3.ensures ∙ nothing_opens d e) }

pub returns : goal.returns
returns g c =
    let d = c.new.result in
    let e = c.new.ensures in
    record {
      empty = e;
      state = opens d _ _ _ _ _ (c.new-3.ensures ∙ nothing_opens d e) (c.new-2.ensures ∙ sym (e.2 UserRoles)) c.new-4.ensures c.new-5.ensures.users c.new-5.ensures.active;
    }
