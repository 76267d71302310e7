-- Sets of numbers: what putting one in and taking one out leave, and when two are the same.
use Rattle.std.proofs.Common.{◌≡◌, ℕ, ◌<◌, ◌≤◌, ◌^◌, Bool, true, false, not, ◌&&◌, ◌||◌, eqb, Decides, sym, refl, ap, ◌∙◌, ⊎_elim, arith}
use mathlib.Core.Bool.{beq}
use mathlib.Core.Path.{fun_ext}
use Rattle.search.specs.Below.{all_below}
use Rattle.search.proofs.Somes.{all_decides}
use Rattle.std.specs.Cmp.{booleans_Decides}
use Rattle.std.proofs.lemmas.Bool.{cases_lt}
use Rattle.std.proofs.lemmas.Bool.Decides.{nat_tests, Decides-eqb, Decides-like, same_from_decides}
use Rattle.rows.specs.Numbers.{with_number, without_number, both, within, agree, bits_of}
use Rattle.rows.proofs.Bits.{bits_past, same_bits}

-- a number out of range is not put in
pub with_out : (s : ℕ → Bool) (n : ℕ) → 32 ≤ n → with_number s n ≡ s
unfolding with_number
with_out s n h = fun_ext λ k. grind (arith, nat_tests)

-- nor one that is there
pub with_there : (s : ℕ → Bool) (n : ℕ) → s n ≡ true → with_number s n ≡ s
unfolding with_number
with_there s n e = fun_ext λ k. grind (arith, nat_tests)

-- and one that is absent is not taken out
pub without_absent : (s : ℕ → Bool) (n : ℕ) → s n ≡ false → without_number s n ≡ s
unfolding without_number
without_absent s n e = fun_ext λ k. grind (arith, nat_tests)

-- Two sets are equal where they agree below 32, as neither has a number beyond.
pub agree_decides : (w v : ℕ) (r : Bool) → r ≡ all_below (agree (bits_of w) (bits_of v)) 32 → Decides r (bits_of w ≡ bits_of v)
agree_decides w v r e = (
  λ t. fun_ext λ k. ⊎_elim
      (λ h. (booleans_Decides (bits_of w k) (bits_of v k)).0 ((all_decides _ 32).0 (sym e ∙ t) k h))
      (λ h. bits_past w k h ∙ sym (bits_past v k h))
      (cases_lt k 32),
  λ p. e ∙ (all_decides _ 32).1 (λ k h. (booleans_Decides (bits_of w k) (bits_of v k)).1 (ap (λ s. s k) p)),
)

-- Two rows hold the same numbers exactly where their words are equal.
pub equal_decides : (w v : ℕ) → w < 2 ^ 32 → v < 2 ^ 32 → Decides (eqb w v) (bits_of w ≡ bits_of v)
equal_decides w v p q = Decides-like (eqb w v) (λ e. ap bits_of e) (λ e. same_bits w v p q e) (Decides-eqb w v)

pub equal_is : (w v : ℕ) → w < 2 ^ 32 → v < 2 ^ 32 → eqb w v ≡ all_below (agree (bits_of w) (bits_of v)) 32
equal_is w v p q = same_from_decides (eqb w v) (all_below (agree (bits_of w) (bits_of v)) 32) (equal_decides w v p q) (agree_decides w v _ refl)

-- Every number of s is in t exactly where s and both are the same set.
alike : (a b : Bool) → beq (a && b) a ≡ (not a || b)
alike false b = refl
alike true false = refl
alike true true = refl

pub within_is : (s t : ℕ → Bool) → all_below (agree (both s t) s) 32 ≡ all_below (within s t) 32
within_is s t = ap (λ f. all_below f 32) (fun_ext λ k. alike (s k) (t k))
