-- What is assigned, by the meaning of the two sets of pairs alone.
use Rattle.std.specs.Prelude.{ℕ, Bool, false}
use Rattle.rules.specs.Spots.{Pairs}
use Rattle.rules.specs.declared.call.Spot.{Spot}
use Rattle.rules.specs.declared.call.Spot.TheVariants.{RolePair, Permission}
use Rattle.stores.specs.Pairs.{in_bounds}
use Rattle.assignments.specs.declared.assignments.Assignments.{Assignments}

-- the two assignment relations as one set
abbrev pub spots : (ℕ → ℕ → Bool) → (ℕ → ℕ → Bool) → Pairs
spots left right (RolePair q e) = left q e
spots left right (Permission p e) = right p e

-- the pairs assigned: left and right say what a set of each make means
abbrev pub assigned : {S T : Type 0} → (S → ℕ → ℕ → Bool) → (T → ℕ → ℕ → Bool) → Assignments S T → Pairs
assigned left right a = spots (left a.role_pairs) (right a.permissions)

unfoldable pub nothing_assigned : Pairs
nothing_assigned x = false

-- a set of pairs can hold the pair of the spot
abbrev pub in_range : Spot → Bool
in_range (RolePair q e) = in_bounds q e
in_range (Permission p e) = in_bounds p e
