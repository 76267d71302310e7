use Rattle.std.proofs.Common.{refl, ap, ◌∙◌}
use Rattle.kinds.specs.declared.column.Column.TheVariants.{Known, Number}
use Rattle.sheets.specs.Numbers.{or_zero}
use Rattle.sheets.proofs.Fields.{zero_or, says, says_none}
use Rattle.sheets.proofs.sheet.Sheet.number.Goals as goal

pub returns-in-Known : goal.returns-in-Known
returns-in-Known c =
    c.unwrap_or.ensures ∙ zero_or c.find.result ∙ ap or_zero c.find.ensures
    ∙ says _ c.args.form.now.kind _ c.args.place (Known c.in-Known.table) _ c.in-Known.ensures c.value_at.ensures

pub returns-in-Number : goal.returns-in-Number
returns-in-Number c = c.number_at.ensures ∙ says _ c.args.form.now.kind _ c.args.place Number _ c.in-Number.ensures refl

pub returns-in-New : goal.returns-in-New
returns-in-New c = says_none _ c.args.form.now.kind _ c.args.place c.column.result _ c.column.ensures refl c.in-New.is
