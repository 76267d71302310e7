-- Sets of numbers: the conditions that hold, gathered one after another, and one set within another.
use Rattle.std.proofs.Common.{◌≡◌, ℕ, ◌+◌, ◌<◌, Bool, true, false, ◌&&◌, ltb, refl, ap, arith}
use mathlib.Core.Path.{fun_ext}
use Rattle.conditions.specs.Active.{all_hold}
use Rattle.conditions.specs.Limits.{is_condition}
use Rattle.rows.specs.Numbers.{no_numbers, with_number, within}
use Rattle.search.specs.Below.{all_below}
use Rattle.std.proofs.lemmas.Bool.Decides.{nat_tests}

-- the numbers of s are those below n that hold
abbrev pub Gathered : (ℕ → Bool) → (ℕ → Bool) → ℕ → Type 0
Gathered s holding n = (k : ℕ) → s k ≡ (ltb k n && holding k)

pub none_gathered : (s holding : ℕ → Bool) → s ≡ no_numbers → Gathered s holding 0
unfolding no_numbers
none_gathered s holding e k = let f = ap (λ t. t k) e in grind (arith, nat_tests)

pub one_more : (s t holding : ℕ → Bool) (n : ℕ) → n < 32 → Gathered s holding n → holding n ≡ true → t ≡ with_number s n → Gathered t holding (n + 1)
unfolding with_number
one_more s t holding n h i e q k = let f = ap (λ u. u k) q in let j = i k in let o : n ≡ k → holding n ≡ holding k = ap holding in grind (arith, nat_tests)

pub none_more : (s t holding : ℕ → Bool) (n : ℕ) → Gathered s holding n → holding n ≡ false → t ≡ s → Gathered t holding (n + 1)
none_more s t holding n i e q k = let f = ap (λ u. u k) q in let j = i k in let o : n ≡ k → holding n ≡ holding k = ap holding in grind (arith, nat_tests)

pub all_gathered : (s holding : ℕ → Bool) (n : ℕ) → n ≡ 32 → ((k : ℕ) → holding k ≡ true → is_condition k ≡ true) → Gathered s holding n → s ≡ holding
all_gathered s holding n h b i = fun_ext λ k. let j = i k in let m = b k in grind (arith, nat_tests)

-- every number of the row w is in the row v exactly where all conditions of w hold by v
pub within_is : (w v : ℕ → Bool) → all_below (within w v) 32 ≡ all_hold w v
unfolding all_hold
within_is w v = refl
