-- The set that a list of pairs stands for.
use Rattle.std.specs.Prelude.{ℕ, Bool, false, ◌&&◌, ◌||◌, List, [], ◌∷◌}
use Rattle.std.specs.List.{list_all}
use Rattle.stores.specs.Pairs.{in_bounds, is_pair}
use Rattle.stores.specs.declared.pair.Pair.{Pair}

-- whether the pair a, b is in bounds and stands in the list
unfoldable pub listed : List Pair → ℕ → ℕ → Bool
listed [] a b = false
listed (p ∷ ps) a b = (in_bounds p.left p.right && is_pair p.left p.right a b) || listed ps a b

-- whether every pair of the list is in bounds
unfoldable pub all_in_bounds : List Pair → Bool
all_in_bounds ps = list_all (λ p. in_bounds p.left p.right) ps
