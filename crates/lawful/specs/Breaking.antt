-- When a pair of numbers breaks a rule, as a test.
use Rattle.std.specs.Prelude.{ℕ, Bool, not, ◌&&◌, ◌||◌, Option, ◌==◌, nat_lt}
use Rattle.rows.specs.Numbers.{both, two_below}
use Rattle.search.specs.Below.{some_below}
use Rattle.search.specs.Firsts.{first_pair}
use Rattle.tables.specs.Drafts.{count, declared, related, permission_at, role_pair_at, entry_at}
use Rattle.tables.specs.Limits.{table_limit, number_limit}
use Rattle.tables.specs.Naming.{permission_lacks, role_pair_lacks, entry_lacks, permissions_alike, role_pairs_alike, pair_declared}
use Rattle.tables.specs.declared.draft.Draft.{Draft}
use Rattle.tables.specs.declared.relation.Relation.{Relation}
use Rattle.tables.specs.declared.relation.Relation.TheVariants.{UserRoles, PermissionAssignment, RolePairAssignment, Bars, StaticSeparation, ProhibitedPairs}
use Rattle.tables.specs.declared.table.Table.TheVariants.{Permissions, RolePairs, Entries}
use Rattle.lawful.specs.Tasks.{held_by}
use Rattle.lawful.specs.declared.rule.Rule.{Rule}
use Rattle.lawful.specs.declared.rule.Rule.TheVariants.{WithinLimit, PermissionsDeclared, RolePairsDeclared, EntriesDeclared, PermissionsApart, RolePairsApart, PairsDeclared, NumberInRange, RolesSeparate, TasksApart, NothingProhibited, NothingBarred}
use Rattle.lawful.specs.declared.task.Task.{Task}

-- the item at this place is there, and names something undeclared

abbrev pub permission_undeclared : Draft → ℕ → Bool
permission_undeclared d p = declared d Permissions p && permission_lacks d (permission_at d p)

abbrev pub role_pair_undeclared : Draft → ℕ → Bool
role_pair_undeclared d q = declared d RolePairs q && role_pair_lacks d (role_pair_at d q)

abbrev pub entry_undeclared : Draft → ℕ → Bool
entry_undeclared d e = declared d Entries e && entry_lacks d (entry_at d e)

-- the items at i and j, in this order, have the same content

abbrev pub permission_twice : Draft → ℕ → ℕ → Bool
permission_twice d i j = nat_lt i j && (declared d Permissions j && permissions_alike (permission_at d i) (permission_at d j))

abbrev pub role_pair_twice : Draft → ℕ → ℕ → Bool
role_pair_twice d i j = nat_lt i j && (declared d RolePairs j && role_pairs_alike (role_pair_at d i) (role_pair_at d j))

-- the pair is in the relation, and a number of it is not declared
abbrev pub pair_undeclared : Draft → Relation → ℕ → ℕ → Bool
pair_undeclared d r a b = related d r a b && not (pair_declared d r a b)

-- the number b is of the set, and the pairs have it with a, in either order
abbrev pub parted_by : (ℕ → ℕ → Bool) → (ℕ → Bool) → ℕ → ℕ → Bool
parted_by pairs roles a b = roles b && (pairs a b || pairs b a)

-- the user u holds the role b, which static separation pairs with the role a
abbrev pub separated_by : Draft → ℕ → ℕ → ℕ → Bool
separated_by d u = parted_by (related d StaticSeparation) (related d UserRoles u)

abbrev pub separated : Draft → ℕ → ℕ → Bool
separated d u a = some_below (separated_by d u a) 32

-- two different units have the pair in this task
abbrev pub shared : Draft → Task → ℕ → ℕ → Bool
shared d t l e = two_below (held_by d t l e) 32

-- the role a reaches the permission p by the role pair q: both are assigned to some device role
abbrev pub reaches_by : Draft → ℕ → ℕ → ℕ → Bool
reaches_by d a p q = (role_pair_at d q).role == a && some_below (both (related d RolePairAssignment q) (related d PermissionAssignment p)) 32

abbrev pub reaches : Draft → ℕ → ℕ → Bool
reaches d a p = some_below (reaches_by d a p) 64

-- whether the pair l, r breaks the rule
abbrev pub breaks : Draft → Rule → ℕ → ℕ → Bool
breaks d (WithinLimit t) l r = nat_lt (table_limit t) (count d t)
breaks d PermissionsDeclared p r = permission_undeclared d p
breaks d RolePairsDeclared q r = role_pair_undeclared d q
breaks d EntriesDeclared e r = entry_undeclared d e
breaks d PermissionsApart i j = permission_twice d i j
breaks d RolePairsApart i j = role_pair_twice d i j
breaks d (PairsDeclared s) a b = pair_undeclared d s a b
breaks d NumberInRange l r = nat_lt number_limit d.number
breaks d RolesSeparate u a = related d UserRoles u a && separated d u a
breaks d (TasksApart t) l e = shared d t l e
breaks d NothingProhibited q e = related d ProhibitedPairs q e && related d RolePairAssignment q e
breaks d NothingBarred p a = related d Bars p a && reaches d a p

-- how many left and right numbers a breach of the rule can have

abbrev pub rows_of : Rule → ℕ
rows_of (WithinLimit t) = 1
rows_of PermissionsDeclared = 64
rows_of RolePairsDeclared = 64
rows_of EntriesDeclared = 64
rows_of PermissionsApart = 64
rows_of RolePairsApart = 64
rows_of (PairsDeclared s) = 64
rows_of NumberInRange = 1
rows_of RolesSeparate = 64
rows_of (TasksApart t) = 64
rows_of NothingProhibited = 64
rows_of NothingBarred = 64

abbrev pub columns_of : Rule → ℕ
columns_of (WithinLimit t) = 1
columns_of PermissionsDeclared = 1
columns_of RolePairsDeclared = 1
columns_of EntriesDeclared = 1
columns_of PermissionsApart = 64
columns_of RolePairsApart = 64
columns_of (PairsDeclared s) = 32
columns_of NumberInRange = 1
columns_of RolesSeparate = 32
columns_of (TasksApart t) = 64
columns_of NothingProhibited = 32
columns_of NothingBarred = 32

-- the first pair that breaks the rule
abbrev pub breach_of : Draft → Rule → Option (ℕ × ℕ)
breach_of d r = first_pair (breaks d r) (rows_of r) (columns_of r)
