-- Items that name numbers of other lists: whether these are declared, and whether two items have the same content.
use Rattle.std.specs.Prelude.{ℕ, Bool, not, ◌&&◌, ◌||◌, ◌==◌}
use Rattle.rows.specs.Numbers.{agree, beyond}
use Rattle.rows.specs.Rows.{numbers}
use Rattle.search.specs.Below.{some_below, all_below}
use Rattle.tables.specs.Drafts.{things, declared}
use Rattle.tables.specs.Sides.{left_of, right_of}
use Rattle.tables.specs.declared.draft.Draft.{Draft}
use Rattle.tables.specs.declared.parts.Entry.{Entry}
use Rattle.tables.specs.declared.parts.Permission.{Permission}
use Rattle.tables.specs.declared.parts.RolePair.{RolePair}
use Rattle.tables.specs.declared.relation.Relation.{Relation}
use Rattle.tables.specs.declared.table.Table.TheVariants.{Things}
use Rattle.tables.specs.declared.table.Thing.TheVariants.{Role, Device, Operation, Condition, EnvironmentRole}

-- the item names something undeclared

abbrev pub permission_lacks : Draft → Permission → Bool
permission_lacks d p = not (declared d (Things Device) p.device && declared d (Things Operation) p.operation)

abbrev pub role_pair_lacks : Draft → RolePair → Bool
role_pair_lacks d q = not (declared d (Things Role) q.role) || some_below (beyond (numbers q.environment_roles) (things d EnvironmentRole)) 32

abbrev pub entry_lacks : Draft → Entry → Bool
entry_lacks d e = not (declared d (Things EnvironmentRole) e.environment_role) || some_below (beyond (numbers e.conditions) (things d Condition)) 32

-- the two items have the same content

abbrev pub permissions_alike : Permission → Permission → Bool
permissions_alike p q = p.device == q.device && p.operation == q.operation

abbrev pub role_pairs_alike : RolePair → RolePair → Bool
role_pairs_alike p q = p.role == q.role && all_below (agree (numbers p.environment_roles) (numbers q.environment_roles)) 32

-- both numbers of a pair of the relation are declared
abbrev pub pair_declared : Draft → Relation → ℕ → ℕ → Bool
pair_declared d r a b = declared d (left_of r) a && declared d (Things (right_of r)) b
