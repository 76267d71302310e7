-- The bits of a word as a set of numbers.
use Rattle.std.proofs.Common.{◌≡◌, ℕ, ◌*◌, ◌/◌, ◌%◌, ◌^◌, ◌<◌, ◌≤◌, true, false, cond, not, eqb, sym, ap, ◌∙◌, ⊎_elim, arith}
use mathlib.Core.Path.{fun_ext}
use lib.Bits.{bit_and, bit_xor}
use Rattle.std.specs.Int.{bit_at, trailing_zeros, w32}
use Rattle.std.proofs.lemmas.Nat.{and_le_l, one_shl}
use Rattle.std.proofs.lemmas.Nat.Bits.{shr_and_one, bit_at-zero, bit_at-lt, bit_at_and, bit_at_xor, bit_at-pow_same, bit_at-pow_other, bit_at-trailing_zeros, same_from_bits_below}
use Rattle.std.proofs.lemmas.Bool.{cases_eq, ne_eqb}
use Rattle.std.proofs.lemmas.Bool.Decides.{nat_tests}
use Rattle.search.specs.Below.{some_below}
use Rattle.search.proofs.Somes.{some_at, some_never}
use Rattle.rows.specs.Numbers.{bits_of, no_numbers, both, outside}

pub bits_none : bits_of 0 ≡ no_numbers
unfolding bits_of no_numbers
bits_none = fun_ext λ k. let z = bit_at-zero k in grind (arith, nat_tests)

-- the test that the code makes
pub bits_test : (w k : ℕ) → k < 32 → eqb (bit_and (w / 2 ^ k) 1) 1 ≡ bits_of w k
unfolding bits_of
bits_test w k h = let m = shr_and_one w k in grind (arith, nat_tests)

pub bits_past : (w k : ℕ) → 32 ≤ k → bits_of w k ≡ false
unfolding bits_of
bits_past w k h = grind (arith, nat_tests)

pub bits_below : (w k : ℕ) → bits_of w k ≡ true → k < 32
unfolding bits_of
bits_below w k e = grind (arith, nat_tests)

-- a number is in the set where its bit is 1
pub bit_in : (w k : ℕ) → bits_of w k ≡ true → bit_at w k ≡ 1
unfolding bits_of
bit_in w k e = grind (arith, nat_tests)

pub bit_on : (w k : ℕ) → k < 32 → bit_at w k ≡ 1 → bits_of w k ≡ true
unfolding bits_of
bit_on w k h e = grind (arith, nat_tests)

pub bit_off : (w k : ℕ) → bit_at w k ≡ 0 → bits_of w k ≡ false
unfolding bits_of
bit_off w k e = grind (arith, nat_tests)

-- the word with one bit turned over
pub bits_flip : (w i k : ℕ) → i < 32 → bits_of (bit_xor w (2 ^ i)) k ≡ cond (eqb i k) (not (bits_of w k)) (bits_of w k)
unfolding bits_of
bits_flip w i k h =
    let x = bit_at_xor w (2 ^ i) k in
    let l = bit_at-lt w k in
    ⊎_elim
    (λ (e : i ≡ k). let p : bit_at (2 ^ i) k ≡ 1 = rw e (bit_at-pow_same k) in grind (arith, nat_tests))
    (λ (n : i ≡ k → ⊥). let p = bit_at-pow_other i k (λ e. n (sym e)) in grind (arith, nat_tests))
    (cases_eq i k)

-- as the code makes it, by a shift within the word
pub word_flip : (w i : ℕ) → i < 32 → bit_xor w ((1 * 2 ^ i) % 2 ^ 32) ≡ bit_xor w (2 ^ i)
word_flip w i h = ap (bit_xor w) (one_shl i 32 h)

-- the bits that two words have in common
pub bits_and : (w v : ℕ) → bits_of (bit_and w v) ≡ both (bits_of w) (bits_of v)
unfolding bits_of
bits_and w v = fun_ext λ k. let a = bit_at_and w v k in let l = bit_at-lt w k in let m = bit_at-lt v k in grind (arith, nat_tests)

-- the bits of one word that another lacks
pub bits_outside : (w v : ℕ) → bits_of (bit_and w (bit_xor w v)) ≡ outside (bits_of w) (bits_of v)
unfolding bits_of
bits_outside w v = fun_ext λ k.
    let a = bit_at_and w (bit_xor w v) k in
    let x = bit_at_xor w v k in
    let l = bit_at-lt w k in
    let m = bit_at-lt v k in
    grind (arith, nat_tests)

-- two words of 32 bits that hold the same numbers are the same
pub same_bits : (w v : ℕ) → w < 2 ^ 32 → v < 2 ^ 32 → bits_of w ≡ bits_of v → w ≡ v
unfolding bits_of
same_bits w v p q e = same_from_bits_below 32 w v p q (λ k h.
    let f = ap (λ s. s k) e in let l = bit_at-lt w k in let m = bit_at-lt v k in grind (arith, nat_tests))

-- a word that is not 0 has a least bit
pub least_bit : (w : ℕ) → w < 2 ^ 32 → (w ≡ 0 → ⊥)
    → (trailing_zeros w32 w < 32) × (bits_of w (trailing_zeros w32 w) ≡ true) × ((k : ℕ) → k < trailing_zeros w32 w → bits_of w k ≡ false)
least_bit w h n = let t = bit_at-trailing_zeros w32 w (omega arith) h in
    (t.0, bit_on w (trailing_zeros w32 w) t.0 t.1, λ k l. bit_off w k (t.2 k l))

pub some_bits : (w : ℕ) → w < 2 ^ 32 → not (eqb w 0) ≡ some_below (bits_of w) 32
unfolding no_numbers
some_bits w h = ⊎_elim
    (λ (e : w ≡ 0). rw e (sym (some_never (bits_of 0) 32 (λ k _. ap (λ s. s k) bits_none))))
    (λ (n : w ≡ 0 → ⊥). let t = least_bit w h n in ap not (ne_eqb w 0 n) ∙ sym (some_at (bits_of w) 32 (trailing_zeros w32 w) t.0 t.1))
    (cases_eq w 0)

-- two words of 32 bits have a bit in common where their conjunction is not 0
pub bits_meet : (w v : ℕ) → w < 2 ^ 32 → not (eqb (bit_and w v) 0) ≡ some_below (both (bits_of w) (bits_of v)) 32
bits_meet w v h = some_bits (bit_and w v) (omega (arith, and_le_l w v)) ∙ ap (λ s. some_below s 32) (bits_and w v)
