use Rattle.std.proofs.Common.{ℕ, ◌&&◌, ◌∙◌, rules, tests}
use Rattle.std.proofs.lemmas.Iterator.{YieldsList-from_range, YieldsList-from_slice, YieldsList-from_zip}
use Rattle.std.proofs.lemmas.Iterator.Search.{any_from_yields_List}
use Rattle.rules.specs.Reaching.{column_barred}
use Rattle.tables.proofs.Places.{any_place}
use Rattle.tables.specs.Drafts.{related}
use Rattle.tables.specs.declared.parts.RolePair.{RolePair}
use Rattle.tables.specs.declared.relation.Relation.TheVariants.{Bars}
use Rattle.assignments.proofs.assignments.Assignments.is_barred_there.Goals as goal

pub returns : goal.returns
unfolding column_barred
returns g c =
    let d = c.args.draft.now in
    let meets = λ (q : ℕ) (x : RolePair). g.S.PairSet.pairs c.args.self.now.role_pairs q c.args.device_role && related d Bars c.args.permission x.role in
    any_from_yields_List (λ (t : ℕ × RolePair). meets t.0 t.1) c.any.new.self _ c.any.result c.any.ensures.ran
    (YieldsList-from_zip (YieldsList-from_range 0 64 64 (cc) (cc)) (YieldsList-from_slice d.role_pairs.places (cc)))
    (λ x b q k. search (rules, tests))
    ∙ any_place meets d.role_pairs.places (record { role = 0; environment_roles = record { bits = 0 } }) 64 (search rules)
