-- Sets of numbers below 32, as functions of the number.
use Rattle.std.specs.Prelude.{ℕ, ◌/◌, ◌%◌, ◌^◌, Bool, false, not, ◌&&◌, ◌||◌, ◌==◌, nat_le, nat_lt}
use Rattle.std.specs.Bool.{beq}
use Rattle.search.specs.Below.{some_below}

-- a number that a set may hold
abbrev pub in_row : ℕ → Bool
in_row n = nat_lt n 32

-- the empty set
unfoldable pub no_numbers : ℕ → Bool
no_numbers k = false

-- the set with the number n, if that is below 32
unfoldable pub with_number : (ℕ → Bool) → ℕ → (ℕ → Bool)
with_number s n = λ k. (in_row n && n == k) || s k

-- the set without the number n
unfoldable pub without_number : (ℕ → Bool) → ℕ → (ℕ → Bool)
without_number s n = λ k. not (n == k) && s k

-- the numbers in both sets
abbrev pub both : (ℕ → Bool) → (ℕ → Bool) → (ℕ → Bool)
both s t = λ k. s k && t k

-- the numbers of s that are not in t
abbrev pub outside : (ℕ → Bool) → (ℕ → Bool) → (ℕ → Bool)
outside s t = λ k. s k && not (t k)

-- the numbers of s that are not below n
abbrev pub beyond : (ℕ → Bool) → ℕ → (ℕ → Bool)
beyond s n = λ k. nat_le n k && s k

-- the numbers that s lacks or t has
abbrev pub within : (ℕ → Bool) → (ℕ → Bool) → (ℕ → Bool)
within s t = λ k. not (s k) || t k

-- whether both sets or neither has the number
abbrev pub agree : (ℕ → Bool) → (ℕ → Bool) → (ℕ → Bool)
agree s t = λ k. beq (s k) (t k)

-- whether two different numbers below n are in the set
abbrev pub two_below : (ℕ → Bool) → ℕ → Bool
two_below s n = some_below (λ k. s k && some_below s k) n

-- the set that the bits of a word stand for
unfoldable pub bits_of : ℕ → ℕ → Bool
bits_of w k = in_row k && w / 2 ^ k % 2 == 1
