use Rattle.std.proofs.Common.{is_some, refl, ap, ◌∙◌}
use Rattle.kinds.specs.declared.column.Column.TheVariants.{Known}
use Rattle.sheets.proofs.Fields.{tells, tells_none}
use Rattle.sheets.proofs.sheet.Sheet.is_known.Goals as goal

pub returns-in-Known : goal.returns-in-Known
returns-in-Known c =
    c.is_some.ensures ∙ ap is_some c.find.ensures ∙ tells _ c.args.form.now.kind _ c.args.place (Known c.in-Known.table) _ c.in-Known.ensures c.value_at.ensures

pub returns-in-New : goal.returns-in-New
returns-in-New c = tells_none _ c.args.form.now.kind _ c.args.place c.column.result _ c.column.ensures refl c.in-New.is
