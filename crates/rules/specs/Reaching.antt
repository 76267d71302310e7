-- When some role reaches a permission that is barred to it.
use Rattle.std.specs.Prelude.{◌≡◌, ℕ, Bool, true, ◌&&◌}
use Rattle.lawful.specs.Keeping.{In}
use Rattle.search.specs.Below.{some_below}
use Rattle.tables.specs.Drafts.{related, role_pair_at}
use Rattle.tables.specs.declared.draft.Draft.{Draft}
use Rattle.tables.specs.declared.relation.Relation.TheVariants.{Bars}
use Rattle.rules.specs.Spots.{Pairs}
use Rattle.rules.specs.declared.call.Spot.{Spot}
use Rattle.rules.specs.declared.call.Spot.TheVariants.{RolePair, Permission}

-- the role of a role pair
abbrev pub role_of : Draft → ℕ → ℕ
role_of d q = (role_pair_at d q).role

-- the permission p is barred to the role of the role pair q
abbrev pub barred : Draft → ℕ → ℕ → Bool
barred d q p = related d Bars p (role_of d q)

-- a permission assigned to the device role e is barred to the role of the role pair q
abbrev pub barred_at : Draft → Pairs → ℕ → ℕ → Bool
barred_at d s q e = some_below (λ p. s (Permission p e) && barred d q p) 64

-- the role of the role pair q reaches such a permission by the device role e
abbrev pub reaches_by : Draft → Pairs → ℕ → ℕ → Bool
reaches_by d s q e = s (RolePair q e) && barred_at d s q e

abbrev pub reaches_from : Draft → Pairs → ℕ → Bool
reaches_from d s q = some_below (reaches_by d s q) 32

-- some role reaches a permission that is barred to it
unfoldable pub reaches_barred_lem : Draft → Pairs → Bool
reaches_barred_lem d s = some_below (reaches_from d s) 64

-- the same of the device role of one spot alone: what the role pair would reach there, or who there would reach the permission
unfoldable pub column_barred : Draft → Pairs → Spot → Bool
column_barred d s (RolePair q e) = barred_at d s q e
column_barred d s (Permission p e) = some_below (λ q. s (RolePair q e) && barred d q p) 64

-- In words: a role pair and a permission are assigned to one device role, and the permission is barred to the role pair's role.
abbrev pub ReachesBarred : Draft → Pairs → Type 0
ReachesBarred d s = (q : ℕ) × (e : ℕ) × (p : ℕ) × (s (RolePair q e) ≡ true) × (s (Permission p e) ≡ true) × In d Bars p (role_of d q)
