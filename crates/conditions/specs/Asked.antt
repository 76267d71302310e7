-- What is known of the conditions that were asked for.
use Rattle.std.specs.Prelude.{◌≡◌, ℕ, Bool, true, false}

-- In words: the conditions of found hold, and those of lacking don't.
pub record Known (holding found lacking : ℕ → Bool) : Type 0 where
  pub hold : (c : ℕ) → found c ≡ true → holding c ≡ true
  pub lack : (c : ℕ) → lacking c ≡ true → holding c ≡ false

-- every number of s is one of t
abbrev pub Among : (ℕ → Bool) → (ℕ → Bool) → Type 0
Among s t = (c : ℕ) → s c ≡ true → t c ≡ true
