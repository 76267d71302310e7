-- The two sides of a pair: where they stand, and that they are declared.
use Rattle.std.proofs.Common.{◌≡◌, ℕ, ◌-◌, ◌<◌, ◌≤◌, true, List, length, is_some, Some, None, Option, sym, refl, ap, ◌∙◌, ap₂, subst, arith, lit<}
use Rattle.kinds.specs.Columns.{relating, column_at, permission_place_lem}
use Rattle.kinds.specs.declared.column.Column.TheVariants.{Known}
use Rattle.kinds.specs.declared.column.NameTable.{NameTable}
use Rattle.kinds.specs.declared.column.NameTable.TheVariants as named_in
use Rattle.kinds.specs.declared.kind.Kind.{Kind}
use Rattle.kinds.specs.declared.kind.Kind.TheVariants.{Relate}
use Rattle.names.specs.Tables.{table_of}
use Rattle.sheets.proofs.Fields.{formed_by}
use Rattle.sheets.specs.Numbers.{Lists, number_at, formed, permission_number_lem}
use Rattle.tables.specs.Drafts.{count, declared}
use Rattle.tables.specs.Limits.{table_limit}
use Rattle.tables.specs.Sides.{left_of, right_of}
use Rattle.tables.specs.declared.draft.Draft.{Draft}
use Rattle.tables.specs.declared.relation.Relation.{Relation}
use Rattle.tables.specs.declared.relation.Relation.TheVariants.{UserRoles, PermissionAssignment, RolePairAssignment, Bars, StaticSeparation, DynamicSeparation, Administrators, RoleTaskRolePairs, RoleTaskDeviceRoles, PermissionTaskPermissions, PermissionTaskDeviceRoles, ProhibitedPairs}
use Rattle.tables.specs.declared.table.Table.{Table}
use Rattle.tables.specs.declared.table.Table.TheVariants.{Things, Permissions}
use Rattle.tables.specs.declared.table.Thing.{Thing}
use Rattle.tables.specs.declared.table.Thing.TheVariants.{User, Role, DeviceRole}
use Rattle.drafting.specs.Fit.{Fit}
use Rattle.drafting.specs.Pairing.{left_place_lem, right_place_lem, left_number, right_number}
use Rattle.drafting.proofs.Fits.{all_there, known_there, formed_there}
use Rattle.drafting.proofs.Known.{declared_at, permission_declared}

-- the left number of a pair, by whether the record needs a permission
module _ (ls : Lists) (d : Draft) (r : Relation) (vs : List (List ℕ)) where
  pub left_permission : (i : ℕ) → Some i ≡ permission_place_lem (Relate r) → permission_number_lem ls d (Relate r) vs ≡ left_number ls d r vs
  unfolding left_number
  left_permission i e = rw (sym e)

  pub left_name : (i : ℕ) → i ≡ left_place_lem r → None ≡ permission_place_lem (Relate r) → number_at ls (Relate r) vs i ≡ left_number ls d r vs
  unfolding left_number
  left_name i place e = rw (sym e) (ap (number_at ls (Relate r) vs) place)

  -- of a record of that kind, found at the place p
  pub both : (k : Kind) (a b p : ℕ) → k ≡ Relate r → a ≡ left_number ls d r vs → p ≡ right_place_lem r → b ≡ number_at ls k vs p → ◌≡◌ {A = ℕ × ℕ} (a, b) (left_number ls d r vs, right_number ls r vs)
  both k a b p e left place right =
      let second : b ≡ right_number ls r vs = right ∙ ap₂ (λ j q. number_at ls j vs q) e place in
      λ i. (left i, second i)

-- the name of table t stands at a place that each record of the relation r has
abbrev Stands : Relation → ℕ → Table → Type 0
Stands r i table = (t : NameTable) × (table_of t ≡ table) × (column_at (Relate r) i ≡ Known t) × (i < length (relating r))

right_stands : (r : Relation) → Stands r (right_place_lem r) (Things (right_of r))
right_stands UserRoles = (named_in.Things Role, refl, refl, lit< tt)
right_stands PermissionAssignment = (named_in.Things DeviceRole, refl, refl, lit< tt)
right_stands RolePairAssignment = (named_in.Things DeviceRole, refl, refl, lit< tt)
right_stands Bars = (named_in.Things Role, refl, refl, lit< tt)
right_stands StaticSeparation = (named_in.Things Role, refl, refl, lit< tt)
right_stands DynamicSeparation = (named_in.Things Role, refl, refl, lit< tt)
right_stands Administrators = (named_in.Things Thing.Unit, refl, refl, lit< tt)
right_stands RoleTaskRolePairs = (named_in.Things Thing.Unit, refl, refl, lit< tt)
right_stands RoleTaskDeviceRoles = (named_in.Things Thing.Unit, refl, refl, lit< tt)
right_stands PermissionTaskPermissions = (named_in.Things Thing.Unit, refl, refl, lit< tt)
right_stands PermissionTaskDeviceRoles = (named_in.Things Thing.Unit, refl, refl, lit< tt)
right_stands ProhibitedPairs = (named_in.Things DeviceRole, refl, refl, lit< tt)

-- what the left side is, by whether the record needs a permission
abbrev Left : Relation → Option ℕ → Type 0
Left r (Some i) = left_of r ≡ Permissions
Left r None = Stands r (left_place_lem r) (left_of r)

left_stands : (r : Relation) → Left r (permission_place_lem (Relate r))
left_stands UserRoles = (named_in.Things User, refl, refl, lit< tt)
left_stands PermissionAssignment = refl
left_stands RolePairAssignment = (named_in.RolePairs, refl, refl, lit< tt)
left_stands Bars = refl
left_stands StaticSeparation = (named_in.Things Role, refl, refl, lit< tt)
left_stands DynamicSeparation = (named_in.Things Role, refl, refl, lit< tt)
left_stands Administrators = (named_in.Things User, refl, refl, lit< tt)
left_stands RoleTaskRolePairs = (named_in.RolePairs, refl, refl, lit< tt)
left_stands RoleTaskDeviceRoles = (named_in.Things DeviceRole, refl, refl, lit< tt)
left_stands PermissionTaskPermissions = refl
left_stands PermissionTaskDeviceRoles = (named_in.Things DeviceRole, refl, refl, lit< tt)
left_stands ProhibitedPairs = (named_in.RolePairs, refl, refl, lit< tt)

-- of a record that fits, both sides are declared
module _ (ls : Lists) (d : Draft) (r : Relation) (vs : List (List ℕ)) (fit : Fit ls d (Relate r) vs)
    (counted : (t : NameTable) → length (ls t) ≡ count d (table_of t)) (within : (t : NameTable) → length (ls t) ≤ table_limit (table_of t)) where
  stands_declared : (i : ℕ) (table : Table) → Stands r i table → declared d table (number_at ls (Relate r) vs i) ≡ true
  stands_declared i table s =
      let there : i < length vs - 1 = omega (arith, s.3, all_there ls d (Relate r) vs fit) in
      let P : Table → Type 0 = λ t. declared d t (number_at ls (Relate r) vs i) ≡ true in
      subst P s.1 (declared_at ls d counted within (Relate r) vs i s.0 s.2 (known_there ls d (Relate r) vs fit i there))

  pub right_declared : declared d (Things (right_of r)) (right_number ls r vs) ≡ true
  right_declared = stands_declared (right_place_lem r) (Things (right_of r)) (right_stands r)

  pub left_declared : declared d (left_of r) (left_number ls d r vs) ≡ true
  left_declared = by (permission_place_lem (Relate r)) refl (left_stands r)
    where
      by : (o : Option ℕ) → o ≡ permission_place_lem (Relate r) → Left r (permission_place_lem (Relate r)) → declared d (left_of r) (left_number ls d r vs) ≡ true
      by None e s =
          let P : ℕ → Type 0 = λ n. declared d (left_of r) n ≡ true in
          subst P (left_name ls d r vs (left_place_lem r) refl e) (stands_declared (left_place_lem r) (left_of r) (subst (Left r) (sym e) s))
      by (Some i) e s =
          let P : ℕ → Type 0 = λ n. declared d (left_of r) n ≡ true in
          let Q : Table → Type 0 = λ t. declared d t (permission_number_lem ls d (Relate r) vs) ≡ true in
          let there = formed_there ls d (Relate r) vs fit (sym (ap is_some e)) in
          subst P (left_permission ls d r vs i e)
          (subst Q (sym (subst (Left r) (sym e) s)) (permission_declared d _ _ (formed ls d (Relate r) vs) (formed_by ls d (Relate r) vs i _ _ e refl refl) there))
