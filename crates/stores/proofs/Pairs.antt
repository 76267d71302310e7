-- Sets of pairs: what putting one in and taking one out leave.
use Rattle.std.proofs.Common.{◌≡◌, ℕ, ◌<◌, ◌≤◌, Bool, true, false, ◌⊎◌, arith}
use mathlib.Core.Path.{fun_ext}
use Rattle.std.proofs.lemmas.Bool.Decides.{nat_tests}
use Rattle.stores.specs.Pairs.{in_bounds, with_pair, without_pair}

-- a pair out of bounds is not put in
pub with_out : (s : ℕ → ℕ → Bool) (l r : ℕ) → in_bounds l r ≡ false → with_pair s l r ≡ s
unfolding with_pair
with_out s l r e = fun_ext λ a. fun_ext λ b. rw e

-- nor one that is there
pub with_there : (s : ℕ → ℕ → Bool) (l r : ℕ) → s l r ≡ true → with_pair s l r ≡ s
unfolding with_pair
with_there s l r e = fun_ext λ a. fun_ext λ b. grind (arith, nat_tests)

-- and one that is absent is not taken out
pub without_absent : (s : ℕ → ℕ → Bool) (l r : ℕ) → s l r ≡ false → without_pair s l r ≡ s
unfolding without_pair
without_absent s l r e = fun_ext λ a. fun_ext λ b. grind (arith, nat_tests)

pub bounds_true : (l r : ℕ) → l < 64 → r < 32 → in_bounds l r ≡ true
bounds_true l r p q = grind (arith, nat_tests)

pub bounds_false : (l r : ℕ) → (64 ≤ l) ⊎ ((l < 64) × (32 ≤ r)) → in_bounds l r ≡ false
bounds_false l r h = grind (arith, nat_tests)
