use Rattle.std.proofs.Common.{arith}
use Rattle.kinds.specs.declared.column.NameTable.TheVariants.{Things, RolePairs}
use Rattle.kinds.specs.declared.kind.Kind.TheVariants as kind
use Rattle.names.proofs.Limits.{names_within}
use Rattle.names.specs.Spellings.{spellings}
use Rattle.std.proofs.lemmas.Bool.{leb-false}
use Rattle.drafting.proofs.Adding.{after_as, permission_added, role_pair_added, entry_added, relation_added}
use Rattle.drafting.proofs.Counts.{counted_thing, counted_pair}
use Rattle.drafting.proofs.Fits.{fit_as, spelt_first}
use Rattle.drafting.proofs.applying.apply.Goals as goal

pub new_name-requires : goal.new_name-requires
new_name-requires c = spelt_first _ _ (kind.Declare c.in-Declare.thing) _ _ c.in-Declare.ensures c.requires (omega arith)

pub declare-requires-clause-room : goal.declare-requires-clause-room
declare-requires-clause-room c =
    let fit = fit_as _ _ (kind.Declare c.in-Declare.thing) _ _ c.in-Declare.ensures c.requires in
    omega (arith, c.args.sheet.now.counted (Things c.in-Declare.thing), leb-false _ _ fit.room)

pub invariant_of-sheet : goal.invariant_of-sheet
invariant_of-sheet c =
    let s = c.args.sheet.now in
    record { counted = counted_thing _ s.draft _ s.counted _ c.in-Declare.thing _ c.declare.ensures c.count_up.ensures.eight c.count_up.ensures.after }

pub new_name-requires-in-RolePair : goal.new_name-requires-in-RolePair
new_name-requires-in-RolePair c = spelt_first _ _ kind.RolePair _ _ c.in-RolePair.ensures c.requires (omega arith)

pub declare-requires-in-RolePair-clause-room : goal.declare-requires-in-RolePair-clause-room
declare-requires-in-RolePair-clause-room c =
    let fit = fit_as _ _ kind.RolePair _ _ c.in-RolePair.ensures c.requires in
    omega (arith, c.args.sheet.now.counted RolePairs, leb-false _ _ fit.room)

pub invariant_of-sheet-in-RolePair : goal.invariant_of-sheet-in-RolePair
invariant_of-sheet-in-RolePair c =
    let s = c.args.sheet.now in
    let draft = role_pair_added _ s.draft _ s.counted (names_within s.names) _ c.requires _ c.in-RolePair.ensures _ _ c.role_pair-role_pair.ensures c.add_role_pair.ensures.answer c.add_role_pair.ensures.after in
    record { counted = counted_pair _ s.draft _ s.counted _ _ _ c.declare-in-RolePair.ensures draft }

pub returns-in-Permission-clause-draft : goal.returns-in-Permission-clause-draft
returns-in-Permission-clause-draft c =
    let s = c.args.sheet.now in
    after_as (spellings s.names) s.draft c.args.form.now.values kind.Permission _ _ c.in-Permission.ensures
    (permission_added _ s.draft _ s.counted (names_within s.names) _ c.requires _ c.in-Permission.ensures _ _ c.permission-permission.ensures c.add_permission.ensures.answer c.add_permission.ensures.after)

pub returns-in-RolePair-clause-draft : goal.returns-in-RolePair-clause-draft
returns-in-RolePair-clause-draft c =
    let s = c.args.sheet.now in
    after_as (spellings s.names) s.draft c.args.form.now.values kind.RolePair _ _ c.in-RolePair.ensures
    (role_pair_added _ s.draft _ s.counted (names_within s.names) _ c.requires _ c.in-RolePair.ensures _ _ c.role_pair-role_pair.ensures c.add_role_pair.ensures.answer c.add_role_pair.ensures.after)

pub returns-in-Entry-clause-draft : goal.returns-in-Entry-clause-draft
returns-in-Entry-clause-draft c =
    let s = c.args.sheet.now in
    after_as (spellings s.names) s.draft c.args.form.now.values kind.Entry _ _ c.in-Entry.ensures
    (entry_added _ s.draft _ s.counted (names_within s.names) _ c.requires _ c.in-Entry.ensures _ _ c.entry-entry.ensures c.add_entry.ensures.answer c.add_entry.ensures.after)

pub returns-in-Relate-clause-draft : goal.returns-in-Relate-clause-draft
returns-in-Relate-clause-draft c =
    let s = c.args.sheet.now in
    after_as (spellings s.names) s.draft c.args.form.now.values (kind.Relate c.in-Relate.relation) _ _ c.in-Relate.ensures
    (relation_added _ s.draft _ s.counted (names_within s.names) _ c.requires _ c.in-Relate.relation c.in-Relate.ensures _ _ c.sides-left.ensures c.relate.ensures.answer c.relate.ensures.exact)
