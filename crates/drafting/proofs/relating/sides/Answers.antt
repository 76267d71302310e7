use Rattle.std.proofs.Common.{ℕ, ap, ◌∙◌}
use Rattle.kinds.specs.Columns.{permission_place_lem}
use Rattle.names.specs.Spellings.{spellings}
use Rattle.sheets.specs.Numbers.{number_at, permission_number_lem}
use Rattle.drafting.proofs.Sides.{left_permission, left_name, both}
use Rattle.drafting.proofs.relating.sides.Goals as goal

pub returns-in-Some : goal.returns-in-Some
returns-in-Some c =
    let s = c.args.sheet.now in
    let r = c.args.relation in
    let vs = c.args.form.now.values in
    both (spellings s.names) s.draft r vs _ _ _ _ c.requires
    (c.permission.ensures ∙ ap (λ k. permission_number_lem (spellings s.names) s.draft k vs) c.requires
    ∙ left_permission _ _ r vs c.in-Some.field-0 (c.in-Some.ensures ∙ ap permission_place_lem (c.kind.ensures ∙ c.requires)))
    (ap (λ (p : ℕ × ℕ). p.1) c.places-left.ensures) c.number-right.ensures

pub returns-in-None : goal.returns-in-None
returns-in-None c =
    let s = c.args.sheet.now in
    let r = c.args.relation in
    let vs = c.args.form.now.values in
    both (spellings s.names) s.draft r vs _ _ _ _ c.requires
    (c.number.ensures ∙ ap (λ k. number_at (spellings s.names) k vs c.places-left.result.0) c.requires
    ∙ left_name _ _ r vs c.places-left.result.0 (ap (λ (p : ℕ × ℕ). p.0) c.places-left.ensures) (c.in-None.ensures ∙ ap permission_place_lem (c.kind.ensures ∙ c.requires)))
    (ap (λ (p : ℕ × ℕ). p.1) c.places-left.ensures) c.number-right.ensures
