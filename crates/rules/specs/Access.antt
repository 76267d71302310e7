-- Authorization paths.
use Rattle.std.specs.Prelude.{◌≡◌, ℕ, ◌<◌, Bool, true, false, ◌&&◌, length, Some, None, Decides, Option, slice_index_or}
use Rattle.conditions.specs.Active.{all_hold, active, Activates, no_entry}
use Rattle.lawful.specs.Keeping.{Declared}
use Rattle.rows.specs.Rows.{numbers}
use Rattle.rows.specs.declared.row.Row.{Row}
use Rattle.search.specs.Below.{some_below}
use Rattle.tables.specs.Drafts.{permission_at, role_pair_at, permission_of, entries_of}
use Rattle.tables.specs.declared.draft.Draft.{Draft}
use Rattle.tables.specs.declared.table.Table.TheVariants.{Things, Permissions}
use Rattle.tables.specs.declared.table.Thing.TheVariants.{Role}
use Rattle.rules.specs.Reaching.{role_of}
use Rattle.rules.specs.Spots.{Pairs, known}
use Rattle.rules.specs.States.{State}
use Rattle.rules.specs.declared.call.Spot.{Spot}
use Rattle.rules.specs.declared.call.Spot.TheVariants.{RolePair, Permission}

-- the environment roles that a role pair asks for
abbrev pub asked_by : Draft → ℕ → Row
asked_by d q = (role_pair_at d q).environment_roles

-- the role of the role pair q is active in the session k, and so are its environment roles under the conditions
abbrev pub ready : Draft → State → Row → ℕ → ℕ → Bool
ready d s conditions k q = s.active k (role_of d q) && all_hold (numbers (asked_by d q)) (active (numbers conditions) (entries_of d))

-- the role pair q and the permission p are assigned to one device role
abbrev pub meet : Pairs → ℕ → ℕ → Bool
meet s q p = some_below (λ e. s (RolePair q e) && s (Permission p e)) 32

abbrev pub path_by : Draft → State → Row → ℕ → ℕ → ℕ → Bool
path_by d s conditions k p q = ready d s conditions k q && meet s.pairs q p

-- some role pair and some device role make a path from the session k to the permission p
abbrev pub path_to : Draft → State → Row → ℕ → ℕ → Bool
path_to d s conditions k p = some_below (path_by d s conditions k p) 64

abbrev pub path_if : Draft → State → Row → ℕ → Option ℕ → Bool
path_if d s conditions k None = false
path_if d s conditions k (Some p) = path_to d s conditions k p

-- the session may do the operation on the device
unfoldable pub granted : Draft → State → ℕ → ℕ → ℕ → Row → Bool
granted d s k device operation conditions = path_if d s conditions k (permission_of d device operation)

-- In words: p is the permission of that device and that operation.
pub record Permits (d : Draft) (device operation p : ℕ) : Type 0 where
  pub there : Declared d Permissions p
  pub of_device : (permission_at d p).device ≡ device
  pub of_operation : (permission_at d p).operation ≡ operation

-- In words: the environment role r is active, by one single entry all of whose conditions hold.
abbrev pub ActiveUnder : Draft → Row → ℕ → Type 0
ActiveUnder d conditions r = (i : ℕ) × (i < length (entries_of d)) × Activates (numbers conditions) (slice_index_or (entries_of d) i no_entry) r

-- In words: the role pair q and the device role e are an authorization path from the session k to the permission p.
pub record Path (d : Draft) (s : State) (k : ℕ) (conditions : Row) (q e p : ℕ) : Type 0 where
  pub pair_assigned : s.pairs (RolePair q e) ≡ true
  pub role_active : s.active k (role_of d q) ≡ true
  pub surroundings : (r : ℕ) → numbers (asked_by d q) r ≡ true → ActiveUnder d conditions r
  pub permission_assigned : s.pairs (Permission p e) ≡ true

-- In words: there is a path to the permission of that device and that operation.
abbrev pub HasPath : Draft → State → ℕ → ℕ → ℕ → Row → Type 0
HasPath d s k device operation conditions = (p : ℕ) × (q : ℕ) × (e : ℕ) × Permits d device operation p × Path d s k conditions q e p

-- In words: what is assigned or active is declared.
pub record Within (d : Draft) (s : State) : Type 0 where
  pub pairs_known : (x : Spot) → s.pairs x ≡ true → known d x ≡ true
  pub roles_known : (k r : ℕ) → s.active k r ≡ true → Declared d (Things Role) r

-- An access check passes exactly where there is a path. The tables list no permission twice.
abbrev pub OnePermission : Draft → Type 0
OnePermission d = (device operation i j : ℕ) → Permits d device operation i → Permits d device operation j → i ≡ j

abbrev pub GrantedByPath : Type 0
GrantedByPath = (d : Draft) (s : State) → OnePermission d → Within d s → (k device operation : ℕ) (conditions : Row)
    → Decides (granted d s k device operation conditions) (HasPath d s k device operation conditions)
