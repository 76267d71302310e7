use Rattle.std.proofs.Common.{◌≡◌, true, cond, ◌&&◌, is_some, sym, ap, ◌∙◌, rules}
use Rattle.assignments.specs.Paths.{way_to}
use Rattle.conditions.specs.Active.{active}
use Rattle.refusals.specs.declared.answer.Answer.TheVariants.{Granted, Denied}
use Rattle.rows.specs.Rows.{numbers}
use Rattle.rules.specs.States.{is_session}
use Rattle.tables.specs.Drafts.{declared}
use Rattle.tables.specs.declared.table.Table.TheVariants.{Things}
use Rattle.tables.specs.declared.table.Thing.TheVariants.{Device, Operation}
use Rattle.house.specs.Views.{draft_of, state_of}
use Rattle.house.proofs.Rules.{granted_is, unrefused}
use Rattle.house.proofs.house.House.check_access.Goals as goal

pub returns : goal.returns
returns g c = λ conditions h.
    let d = draft_of c.args.self.now in
    let s = state_of c.args.self.now in
    let holding = g.C.Conditions.holding c.args.source.now in
    let n : (is_session c.args.session && (declared d (Things Device) c.args.device && declared d (Things Operation) c.args.operation)) ≡ true = search rules in
    let l : is_some (s.session c.args.session) ≡ true = search rules in
    let p = c.in-Some.ensures in
    unrefused _ _ _ _ _ n l (ap is_some (sym p))
    (ap (λ b. cond b Granted Denied)
    (c.has_path.ensures
    ∙ ap (λ a. way_to d s.pairs a (numbers c.active_roles-roles.result) c.in-Some.permission) c.active_roles-active.ensures
    ∙ granted_is d s c.args.session c.args.device c.args.operation c.in-Some.permission conditions holding _ p h
    (c.active_roles-roles.ensures.exact ∙ ap (active holding) c.listed.ensures)))
