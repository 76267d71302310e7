-- Authorization paths, given the roles and the environment roles that are active.
use Rattle.std.specs.Prelude.{ℕ, Bool, ◌&&◌}
use Rattle.conditions.specs.Active.{all_hold}
use Rattle.rows.specs.Rows.{numbers}
use Rattle.rules.specs.Access.{asked_by, meet}
use Rattle.rules.specs.Reaching.{role_of}
use Rattle.rules.specs.Spots.{Pairs}
use Rattle.search.specs.Below.{some_below}
use Rattle.tables.specs.declared.draft.Draft.{Draft}

-- the role of the role pair q is active, and so are its environment roles
abbrev pub ready_under : Draft → (ℕ → Bool) → (ℕ → Bool) → ℕ → Bool
ready_under d active roles q = active (role_of d q) && all_hold (numbers (asked_by d q)) roles

abbrev pub way_by : Draft → Pairs → (ℕ → Bool) → (ℕ → Bool) → ℕ → ℕ → Bool
way_by d s active roles p q = ready_under d active roles q && meet s q p

-- some role pair and some device role make a path to the permission p
abbrev pub way_to : Draft → Pairs → (ℕ → Bool) → (ℕ → Bool) → ℕ → Bool
way_to d s active roles p = some_below (way_by d s active roles p) 64
