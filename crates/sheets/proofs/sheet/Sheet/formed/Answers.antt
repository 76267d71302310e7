use Rattle.std.proofs.Common.{◌∙◌, ap}
use Rattle.kinds.specs.Columns.{permission_place_lem}
use Rattle.sheets.proofs.Fields.{formed_none, formed_by}
use Rattle.sheets.proofs.sheet.Sheet.formed.Goals as goal

pub returns-in_err-place : goal.returns-in_err-place
returns-in_err-place c =
    c.from_residual.ensures ∙ formed_none _ _ c.args.form.now.kind _ (c.in_err-place.ensures ∙ ap permission_place_lem c.kind.ensures)

pub returns : goal.returns
returns c =
    c.permission_number.ensures
    ∙ formed_by _ _ c.args.form.now.kind _ c.in_ok-place.place _ _ (c.in_ok-place.ensures ∙ ap permission_place_lem c.kind.ensures) c.number-device.ensures c.number-operation.ensures
