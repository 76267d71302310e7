-- The relations of a draft, one of them changed.
use Rattle.std.proofs.Common.{◌≡◌, ℕ, ◌<◌, Bool, true, false, cond, eqb, ◌≢◌, List, [], length, get_or, set, replicate, sym, refl, ap, ◌∙◌, lit<}
use mathlib.Core.Path.{fun_ext}
use Rattle.std.proofs.lemmas.List.{get_or-set_same, get_or-set_other, get_or-replicate}
use Rattle.std.proofs.lemmas.Bool.{eqb-true, eqb-false}
use Rattle.stores.specs.Pairs.{no_pairs, with_pair}
use Rattle.stores.specs.Rows.{pairs_in, rows_with}
use Rattle.stores.specs.declared.bit_rows.BitRows.{BitRows}
use Rattle.tables.specs.Adding.{with_pair_in, with_related}
use Rattle.tables.specs.Drafts.{related}
use Rattle.tables.specs.Indices.{relation_index}
use Rattle.tables.specs.declared.draft.Draft.{Draft}
use Rattle.tables.specs.declared.relation.Relation.{Relation}
use Rattle.tables.specs.declared.relation.Relation.TheVariants.{UserRoles, PermissionAssignment, RolePairAssignment, Bars, StaticSeparation, DynamicSeparation, Administrators, RoleTaskRolePairs, RoleTaskDeviceRoles, PermissionTaskPermissions, PermissionTaskDeviceRoles, ProhibitedPairs}

pub index_below : (r : Relation) → relation_index r < 12
index_below UserRoles = lit< tt
index_below PermissionAssignment = lit< tt
index_below RolePairAssignment = lit< tt
index_below Bars = lit< tt
index_below StaticSeparation = lit< tt
index_below DynamicSeparation = lit< tt
index_below Administrators = lit< tt
index_below RoleTaskRolePairs = lit< tt
index_below RoleTaskDeviceRoles = lit< tt
index_below PermissionTaskPermissions = lit< tt
index_below PermissionTaskDeviceRoles = lit< tt
index_below ProhibitedPairs = lit< tt

-- the pairs of a relation in a list of sets
abbrev pairs_at : List BitRows → Relation → ℕ → ℕ → Bool
pairs_at rs r = pairs_in (get_or rs (relation_index r) (record { rows = [] }))

-- equal empty sets
pub related_none : (d : Draft) (x : BitRows) → d.relations ≡ replicate 12 x → pairs_in x ≡ no_pairs → (r : Relation) → related d r ≡ no_pairs
unfolding related
related_none d x e n r =
    ap (λ rs. pairs_at rs r) e ∙ ap pairs_in (get_or-replicate 12 (relation_index r) x (record { rows = [] }) (index_below r)) ∙ n

-- One relation gives way to a set with one pair more.
module _ (rs : List BitRows) (r : Relation) (x : BitRows) (a b : ℕ) (inside : relation_index r < length rs) (here : pairs_in x ≡ with_pair (pairs_at rs r) a b) where
  at_set : (q : Relation) (t : Bool) → eqb (relation_index r) (relation_index q) ≡ t
      → pairs_at (set rs (relation_index r) x) q ≡ cond t (with_pair (pairs_at rs q) a b) (pairs_at rs q)
  at_set q true e =
      let same : relation_index r ≡ relation_index q = eqb-true (relation_index r) (relation_index q) e in
      ap (λ k. pairs_in (get_or (set rs (relation_index r) x) k (record { rows = [] }))) (sym same) ∙ ap pairs_in (get_or-set_same rs (relation_index r) x (record { rows = [] }) inside) ∙ here
      ∙ ap (λ k. with_pair (pairs_in (get_or rs k (record { rows = [] }))) a b) same
  at_set q false e =
      let apart : relation_index q ≢ relation_index r = λ p. eqb-false (relation_index r) (relation_index q) e (sym p) in
      ap pairs_in (get_or-set_other rs (relation_index r) (relation_index q) x (record { rows = [] }) apart)

  pub related_set : (k : ℕ) → k ≡ relation_index r → (λ q. pairs_at (set rs k x) q) ≡ with_related (λ q. pairs_at rs q) r a b
  unfolding with_related
  related_set k e = fun_ext λ q. ap (λ i. pairs_at (set rs i x) q) e ∙ at_set q (eqb (relation_index r) (relation_index q)) refl

-- the same by the whole draft
pub draft_set : (d : Draft) (r : Relation) (x : BitRows) (a b k : ℕ) → k ≡ relation_index r → x ≡ rows_with (get_or d.relations k (record { rows = [] })) a b
    → record d { relations = set d.relations k x } ≡ with_pair_in d r a b
draft_set d r x a b k e f =
    ap (placed k) f ∙ ap (λ i. placed i (rows_with (get_or d.relations i (record { rows = [] })) a b)) e
  where
    placed : ℕ → BitRows → Draft
    placed i y = record d { relations = set d.relations i y }
