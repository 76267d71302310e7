use Rattle.std.proofs.Common.{Some, None, is_some, refl, ap, ◌∙◌}
use Rattle.names.specs.Spellings.{spellings}
use Rattle.sheets.proofs.Fields.{permitted_by}
use Rattle.sheets.proofs.sheet.Sheet.is_permitted.Goals as goal

pub returns-in_default : goal.returns-in_default
returns-in_default c =
    permitted_by (spellings c.args.self.now.names) c.args.self.now.draft c.args.form.now.values None _ _ _ c.value_at.ensures refl c.in_default.ensures refl

pub returns-in_default-find : goal.returns-in_default-find
returns-in_default-find c =
    permitted_by (spellings c.args.self.now.names) c.args.self.now.draft c.args.form.now.values (Some c.in-Some.device) None _ _ c.value_at.ensures c.value_at-2.ensures
    c.in-Some.ensures c.in_default-find.ensures

pub returns : goal.returns
returns c =
    c.is_some.ensures ∙ ap is_some c.permission_number.ensures
    ∙ permitted_by (spellings c.args.self.now.names) c.args.self.now.draft c.args.form.now.values (Some c.in-Some.device) (Some c.in-Some-find.operation) _ _
    c.value_at.ensures c.value_at-2.ensures c.in-Some.ensures c.in-Some-find.ensures
