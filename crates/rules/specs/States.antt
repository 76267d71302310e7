-- What changes while a house runs, and the state right after an opening.
use Rattle.std.specs.Prelude.{ℕ, Bool, false, cond, not, ◌&&◌, ◌||◌, Some, None, Option, ◌==◌, nat_lt}
use Rattle.tables.specs.Drafts.{related}
use Rattle.tables.specs.declared.draft.Draft.{Draft}
use Rattle.tables.specs.declared.relation.Relation.TheVariants.{UserRoles, PermissionAssignment, RolePairAssignment}
use Rattle.rules.specs.Spots.{Pairs}
use Rattle.rules.specs.declared.call.Spot.TheVariants.{RolePair, Permission}

pub record State : Type 0 where
  -- the pairs assigned
  pub pairs : Pairs
  -- which user holds which role
  pub held : ℕ → ℕ → Bool
  -- to whom each unit's lease is out
  pub lease : ℕ → Option ℕ
  -- for whom each session lives
  pub session : ℕ → Option ℕ
  -- which role is active in which session
  pub active : ℕ → ℕ → Bool

-- sessions are numbered below this
abbrev pub session_count : ℕ
session_count = 16

abbrev pub is_session : ℕ → Bool
is_session k = nat_lt k session_count

-- the pairs that a draft assigns
unfoldable pub opening_pairs : Draft → Pairs
opening_pairs d (RolePair q e) = related d RolePairAssignment q e
opening_pairs d (Permission p e) = related d PermissionAssignment p e

unfoldable pub nobody : ℕ → Option ℕ
nobody k = None

unfoldable pub none_active : ℕ → ℕ → Bool
none_active k r = false

-- no lease is out, and no session lives
abbrev pub opened : Draft → State
opened d = record { pairs = opening_pairs d; held = related d UserRoles; lease = nobody; session = nobody; active = none_active }

-- f, and v at k
unfoldable pub with_at : (ℕ → Option ℕ) → ℕ → Option ℕ → (ℕ → Option ℕ)
with_at f k v = λ j. cond (k == j) v (f j)

-- the role r is active in the session k
unfoldable pub with_active : (ℕ → ℕ → Bool) → ℕ → ℕ → (ℕ → ℕ → Bool)
with_active f k r = λ j a. (k == j && r == a) || f j a

-- it is not
unfoldable pub without_active : (ℕ → ℕ → Bool) → ℕ → ℕ → (ℕ → ℕ → Bool)
without_active f k r = λ j a. not (k == j && r == a) && f j a

-- no role is active in the session k
unfoldable pub without_session : (ℕ → ℕ → Bool) → ℕ → (ℕ → ℕ → Bool)
without_session f k = λ j a. not (k == j) && f j a

-- the user is the one named
abbrev pub is_for : Option ℕ → ℕ → Bool
is_for None w = false
is_for (Some v) w = v == w

-- the user, if there is one, holds the role r
abbrev pub holds_role : (ℕ → ℕ → Bool) → Option ℕ → ℕ → Bool
holds_role held None r = false
holds_role held (Some w) r = held w r
