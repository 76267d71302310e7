-- Sets of pairs, as functions of the left and the right number.
use Rattle.std.specs.Prelude.{ℕ, Bool, false, not, ◌&&◌, ◌||◌, ◌==◌, nat_lt}

-- a pair that a set may hold: its left number below 64, its right number below 32
abbrev pub in_bounds : ℕ → ℕ → Bool
in_bounds l r = nat_lt l 64 && nat_lt r 32

-- whether a, b is the pair l, r
abbrev pub is_pair : ℕ → ℕ → ℕ → ℕ → Bool
is_pair l r a b = l == a && r == b

-- the empty set
unfoldable pub no_pairs : ℕ → ℕ → Bool
no_pairs a b = false

-- the set with the pair l, r, if that is in bounds
unfoldable pub with_pair : (ℕ → ℕ → Bool) → ℕ → ℕ → (ℕ → ℕ → Bool)
with_pair s l r = λ a b. (in_bounds l r && is_pair l r a b) || s a b

-- the set without the pair l, r
unfoldable pub without_pair : (ℕ → ℕ → Bool) → ℕ → ℕ → (ℕ → ℕ → Bool)
without_pair s l r = λ a b. not (is_pair l r a b) && s a b
