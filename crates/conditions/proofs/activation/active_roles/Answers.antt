use Rattle.std.proofs.Common.{sym, ap, ◌∙◌, take_all}
use Rattle.rows.specs.Rows.{numbers}
use Rattle.conditions.specs.Active.{active}
use Rattle.conditions.proofs.Actives.{active_none, active_with, active_same, words_of}
use Rattle.conditions.proofs.Asking.{known_none, found_holds}
use Rattle.conditions.proofs.activation.active_roles.Goals as goal
use Rattle.conditions.proofs.activation.active_roles.Goals.{then-is_within, else-is_within}

pub loop-entry-init : goal.loop-entry-init
loop-entry-init g c = record { known = known_none _ _ _ c.new-holding.ensures.empty c.new-lacking.ensures.empty; so_far = c.new-roles.ensures.empty ∙ sym (active_none _) }

pub ask-requires : goal.ask-requires
ask-requires g c = c.loop-entry.invariant.known

pub loop-entry-preserved : goal.loop-entry-preserved
loop-entry-preserved g c =
    let e = sym (c.is_within.ensures ∙ found_holds _ _ _ _ c.ask.ensures.known c.ask.ensures.asked) in
    record {
      known = c.ask.ensures.known;
      so_far = elim c.if-is_within.branch [
        | then-is_within w ↦ active_with _ _ _ _ c.loop-entry-test.true _ c.loop-entry.invariant.so_far _ (e ∙ w.if-is_within.true) (ap numbers w.roles-is ∙ w.insert.ensures.after)
        | else-is_within w ↦ active_same _ _ _ _ c.loop-entry-test.true _ c.loop-entry.invariant.so_far _ (e ∙ w.if-is_within.false) (ap numbers w.roles-is)
      ];
    }

pub returns : goal.returns
returns g c =
    let e = c.loop-entry.invariant.so_far ∙ ap (active _) (take_all _ _ c.loop-entry-test.false) in
    record { exact = e; words = words_of _ _ _ e }
