-- When a minute is in a window.
use Rattle.std.specs.Prelude.{◌≡◌, ℕ, ◌<◌, ◌≤◌, Bool, false, cond, ◌&&◌, ◌||◌, ◌⊎◌, Decides, nat_le, nat_lt}

-- whether the minute m is in the window that starts at from and ends before to
abbrev pub in_window : ℕ → ℕ → ℕ → Bool
in_window m from to = cond (nat_lt from to) (nat_le from m && nat_lt m to) (nat_lt to from && (nat_le from m || nat_lt m to))

-- In words, of the answer r: a window that ends after it starts holds from its start up to its end;
-- one that ends before it starts crosses the week's end, and holds from its start on and again up to its end;
-- one that ends where it starts never holds.
pub record InWindow (m from to : ℕ) (r : Bool) : Type 0 where
  pub plain : from < to → Decides r ((from ≤ m) × (m < to))
  pub across : to < from → Decides r ((from ≤ m) ⊎ (m < to))
  pub never : from ≡ to → r ≡ false
