-- Places in the two assignment relations, and sets of them.
use Rattle.std.specs.Prelude.{ℕ, Bool, false, not, ◌&&◌, ◌||◌, ◌==◌}
use Rattle.lawful.specs.Tasks.{held_by}
use Rattle.lawful.specs.declared.task.Task.{Task}
use Rattle.tables.specs.Drafts.{declared, related}
use Rattle.tables.specs.declared.draft.Draft.{Draft}
use Rattle.tables.specs.declared.relation.Relation.TheVariants.{ProhibitedPairs}
use Rattle.tables.specs.declared.table.Table.TheVariants.{Things, Permissions, RolePairs}
use Rattle.tables.specs.declared.table.Thing.TheVariants.{DeviceRole}
use Rattle.rules.specs.declared.call.Spot.{Spot}
use Rattle.rules.specs.declared.call.Spot.TheVariants.{RolePair, Permission}

-- both numbers of the spot are declared
abbrev pub known : Draft → Spot → Bool
known d (RolePair q e) = declared d RolePairs q && declared d (Things DeviceRole) e
known d (Permission p e) = declared d Permissions p && declared d (Things DeviceRole) e

-- the pair may never be assigned
abbrev pub prohibited : Draft → Spot → Bool
prohibited d (RolePair q e) = related d ProhibitedPairs q e
prohibited d (Permission p e) = false

-- the task of the unit u holds the pair
abbrev pub in_task : Draft → ℕ → Spot → Bool
in_task d u (RolePair q e) = held_by d Task.RolePairs q e u
in_task d u (Permission p e) = held_by d Task.Permissions p e u

-- both assignment relations: whether the pair of a spot is assigned
abbrev pub Pairs : Type 0
Pairs = Spot → Bool

-- whether the two are one spot
abbrev pub same_spot : Spot → Spot → Bool
same_spot (RolePair a b) (RolePair c e) = a == c && b == e
same_spot (RolePair a b) (Permission c e) = false
same_spot (Permission a b) (RolePair c e) = false
same_spot (Permission a b) (Permission c e) = a == c && b == e

unfoldable pub with_spot : Pairs → Spot → Pairs
with_spot s x = λ y. same_spot x y || s y

unfoldable pub without_spot : Pairs → Spot → Pairs
without_spot s x = λ y. not (same_spot x y) && s y
