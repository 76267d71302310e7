-- What a comparison of two sets of pairs finds.
use Rattle.std.specs.Prelude.{◌≡◌, ℕ, Bool, true, ◌&&◌, ◌||◌, Some, None, Option, ◌==◌, ◌≢◌, nat_lt}
use Rattle.stores.specs.declared.pair.Pair.{Pair}

-- whether the pair a, b comes before l, r: by its left number, then by its right
abbrev pub before : ℕ → ℕ → ℕ → ℕ → Bool
before a b l r = nat_lt a l || (a == l && nat_lt b r)

-- In words: the sets are equal; or they differ at this pair, and at none before it.
abbrev pub Compared : (ℕ → ℕ → Bool) → (ℕ → ℕ → Bool) → Option Pair → Type 0
Compared s t None = s ≡ t
Compared s t (Some p) = (s p.left p.right ≢ t p.left p.right) × ((a b : ℕ) → before a b p.left p.right ≡ true → s a b ≡ t a b)
