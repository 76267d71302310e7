-- No pair of a relation is out of bounds.
use Rattle.std.proofs.Common.{◌≡◌, ℕ, ◌<◌, Bool, true, false, ltb, [], get_or, ⊎_elim}
use Rattle.std.proofs.lemmas.Bool.{and_parts, ltb-true, cases_Bool}
use Rattle.stores.specs.Bounded.{rows_bounded}
use Rattle.tables.specs.Drafts.{related}
use Rattle.tables.specs.Indices.{relation_index}
use Rattle.tables.specs.declared.draft.Draft.{Draft}
use Rattle.tables.specs.declared.relation.Relation.{Relation}

pub related_bounded : (d : Draft) (r : Relation) (a b : ℕ) → related d r a b ≡ true → (a < 64) × (b < 32)
unfolding related
related_bounded d r a b e =
    let p = and_parts (ltb a 64) (ltb b 32) (rows_bounded (get_or d.relations (relation_index r) (record { rows = [] })).rows a b e) in
    (ltb-true a 64 p.0, ltb-true b 32 p.1)

-- a test that cannot pass fails
pub refute : (b : Bool) → (b ≡ true → ⊥) → b ≡ false
refute b h = ⊎_elim (λ t. absurd (h t)) (λ e. e) (cases_Bool b)
