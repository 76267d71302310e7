-- The first number, and the first pair of numbers, that passes a test.
use Rattle.std.specs.Prelude.{◌≡◌, ℕ, zero, suc, ◌<◌, Bool, true, false, cond, Some, None, Option}

-- the first of two options that holds something
abbrev pub or_else : {A : Type 0} → Option A → Option A → Option A
or_else (Some a) b = Some a
or_else None b = b

-- the least number below n at which the test f passes
unfoldable pub first_below : (ℕ → Bool) → ℕ → Option ℕ
first_below f zero = None
first_below f (suc n) = or_else (first_below f n) (cond (f n) (Some n) None)

abbrev pub with_left : ℕ → Option ℕ → Option (ℕ × ℕ)
with_left l None = None
with_left l (Some r) = Some (l, r)

-- the first pair, left below m and right below n, at which the test f passes: by its left number, then by its right
unfoldable pub first_pair : (ℕ → ℕ → Bool) → ℕ → ℕ → Option (ℕ × ℕ)
first_pair f zero n = None
first_pair f (suc m) n = or_else (first_pair f m n) (with_left m (first_below (f m) n))

-- In words: no pair passes; or this one passes, and none before it, by its left number and then by its right.
abbrev pub FirstPair : (ℕ → ℕ → Bool) → ℕ → ℕ → Option (ℕ × ℕ) → Type 0
FirstPair f m n None = (l r : ℕ) → l < m → r < n → f l r ≡ false
FirstPair f m n (Some p) = (p.0 < m) × (p.1 < n) × (f p.0 p.1 ≡ true)
    × ((l r : ℕ) → l < p.0 → r < n → f l r ≡ false) × ((r : ℕ) → r < p.1 → f p.0 r ≡ false)

-- whatever a test may answer of a pair, left below m and right below n, is what hit computes of it
abbrev pub Computes : (ℕ → ℕ → Bool → Type 0) → ℕ → ℕ → (ℕ → ℕ → Bool) → Type 0
Computes answers m n hit = (l r : ℕ) (b : Bool) → l < m → r < n → answers l r b → b ≡ hit l r
