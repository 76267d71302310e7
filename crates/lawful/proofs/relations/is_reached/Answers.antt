use Rattle.std.proofs.Common.{ℕ, ◌&&◌, ◌==◌, ◌∙◌, rules, tests}
use Rattle.std.proofs.lemmas.Iterator.{YieldsList-from_range, YieldsList-from_slice, YieldsList-from_zip}
use Rattle.std.proofs.lemmas.Iterator.Search.{any_from_yields_List}
use Rattle.rows.specs.Numbers.{both}
use Rattle.search.specs.Below.{some_below}
use Rattle.tables.proofs.Places.{any_place}
use Rattle.tables.specs.Drafts.{related}
use Rattle.tables.specs.declared.parts.RolePair.{RolePair}
use Rattle.tables.specs.declared.relation.Relation.TheVariants.{RolePairAssignment, PermissionAssignment}
use Rattle.lawful.proofs.relations.is_reached.Goals as goal

pub returns : goal.returns
returns c =
    let d = c.args.draft.now in
    let reaches_by = λ (q : ℕ) (x : RolePair). x.role == c.args.role && some_below (both (related d RolePairAssignment q) (related d PermissionAssignment c.args.permission)) 32 in
    any_from_yields_List (λ (t : ℕ × RolePair). reaches_by t.0 t.1) c.any.new.self _ c.any.result c.any.ensures.ran
    (YieldsList-from_zip (YieldsList-from_range 0 64 64 (cc) (cc)) (YieldsList-from_slice d.role_pairs.places (cc)))
    (λ x b q k. search (rules, tests))
    ∙ any_place reaches_by d.role_pairs.places (record { role = 0; environment_roles = record { bits = 0 } }) 64 (search rules)
