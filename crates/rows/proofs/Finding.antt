-- What a search in a row finds: the least number, a number from a limit on, two different numbers.
use Rattle.std.proofs.Common.{◌≡◌, ℕ, zero, suc, ◌+◌, ◌-◌, ◌/◌, ◌%◌, ◌^◌, ◌<◌, ◌≤◌, Bool, true, ◌&&◌, ltb, leb, Some, None, sym, ap, ◌∙◌, ⊎_elim, arith}
use lib.Count.{ones, ones_step}
use Rattle.std.specs.Int.{bit_at, trailing_zeros, w32}
use Rattle.std.specs.List.{list_any, range_with_len}
use Rattle.std.proofs.lemmas.Nat.{zero_from_ones, ones_le_self}
use Rattle.std.proofs.lemmas.Nat.Bits.{bit_at_lowest, bit_at-zero, bit_at-suc, bit_at_above}
use Rattle.std.proofs.lemmas.Bool.{cases_eq, cases_lt, and_parts, and_from, or_cases, or_left, or_right, le-leb, leb-true, false≢true}
use Rattle.std.proofs.lemmas.Bool.Decides.{Decides-ltb, same_from_decides}
use Rattle.search.specs.Below.{some_below}
use Rattle.search.specs.Firsts.{first_below}
use Rattle.search.proofs.Somes.{some_at, some_found, some_decides}
use Rattle.search.proofs.Finds.{first_found, first_clear}
use Rattle.rows.specs.Numbers.{bits_of, no_numbers, beyond, two_below}
use Rattle.rows.proofs.Bits.{bits_none, bits_below, bit_in, bit_on, least_bit}

-- the least number

pub first_of_none : (w : ℕ) → w ≡ 0 → None ≡ first_below (bits_of w) 32
unfolding no_numbers
first_of_none w e = rw e (sym (first_clear (bits_of 0) 32 (λ k _. ap (λ s. s k) bits_none)))

pub first_of_some : (w : ℕ) → w < 2 ^ 32 → (w ≡ 0 → ⊥) → Some (trailing_zeros w32 w) ≡ first_below (bits_of w) 32
first_of_some w h n = let t = least_bit w h n in
    sym (first_found (bits_of w) 32 (trailing_zeros w32 w) t.0 (first_clear (bits_of w) (trailing_zeros w32 w) t.2) t.1)

-- a number from a limit on

any_found : (f : ℕ → Bool) (a n : ℕ) → list_any f (range_with_len a n) ≡ true → (k : ℕ) × (a ≤ k) × (k < a + n) × (f k ≡ true)
any_found f a zero e = absurd (false≢true e)
any_found f a (suc n) e = ⊎_elim
    (λ t. (a, omega arith, omega arith, t))
    (λ t. let w = any_found f (a + 1) n t in (w.0, omega (arith, w.1), omega (arith, w.2), w.3))
    (or_cases (f a) (list_any f (range_with_len (a + 1) n)) e)

any_at : (f : ℕ → Bool) (a n k : ℕ) → a ≤ k → k < a + n → f k ≡ true → list_any f (range_with_len a n) ≡ true
any_at f a zero k p q t = absurd (omega arith)
any_at f a (suc n) k p q t = ⊎_elim
    (λ (e : k ≡ a). or_left (f a) (list_any f (range_with_len (a + 1) n)) (ap f (sym e) ∙ t))
    (λ (e : k ≡ a → ⊥). or_right (f a) (list_any f (range_with_len (a + 1) n)) (any_at f (a + 1) n k (omega arith) (omega arith) t))
    (cases_eq k a)

pub beyond_is : (w limit : ℕ) → list_any (bits_of w) (range_with_len limit (32 - limit)) ≡ some_below (beyond (bits_of w) limit) 32
beyond_is w limit = same_from_decides (list_any (bits_of w) (range_with_len limit (32 - limit))) (some_below (beyond (bits_of w) limit) 32) (
  (λ e. let f = any_found (bits_of w) limit (32 - limit) e in (f.0, bits_below w f.0 f.3, and_from (leb limit f.0) (bits_of w f.0) (le-leb limit f.0 f.1) f.3)),
  (λ f. let p = and_parts (leb limit f.0) (bits_of w f.0) f.2 in
      let l : limit ≤ f.0 = leb-true limit f.0 p.0 in
      any_at (bits_of w) limit (32 - limit) f.0 l (omega (arith, f.1)) p.1),
)
    (some_decides (beyond (bits_of w) limit) 32)

-- two different numbers

bit_some : (w k : ℕ) → bit_at w k ≡ 1 → 0 < ones w
bit_some w k b = ⊎_elim
    (λ (e : ones w ≡ 0). let z = bit_at-zero k in absurd (let q : bit_at w k ≡ bit_at 0 k = ap (λ n. bit_at n k) (zero_from_ones w e) in omega arith))
    (λ (n : ones w ≡ 0 → ⊥). omega arith)
    (cases_eq (ones w) 0)

two_ones : (i w j : ℕ) → i < j → bit_at w i ≡ 1 → bit_at w j ≡ 1 → 1 < ones w
two_ones i w zero l a b = absurd (omega arith)
two_ones zero w (suc j) l a b =
    let s = bit_some (w / 2) j (sym (bit_at-suc w j) ∙ b) in
    let z = bit_at_lowest w in
    omega (arith, ones_step w)
two_ones (suc i) w (suc j) l a b =
    let s = two_ones i (w / 2) j (omega arith) (sym (bit_at-suc w i) ∙ a) (sym (bit_at-suc w j) ∙ b) in
    omega (arith, ones_step w)

-- a number with a digit that is not 0 has a bit
some_bit : (d w : ℕ) → w < 2 ^ d → 0 < w → (k : ℕ) × (bit_at w k ≡ 1)
some_bit zero w h n = absurd (omega arith)
some_bit (suc d) w h n = ⊎_elim
    (λ (e : w % 2 ≡ 1). (0, bit_at_lowest w ∙ e))
    (λ (e : w % 2 ≡ 1 → ⊥). let b = some_bit d (w / 2) (omega arith) (omega arith) in (suc b.0, bit_at-suc w b.0 ∙ b.1))
    (cases_eq (w % 2) 1)

two_bits : (d w : ℕ) → w < 2 ^ d → 1 < ones w → (i : ℕ) × (j : ℕ) × (i < j) × (bit_at w i ≡ 1) × (bit_at w j ≡ 1)
two_bits zero w h n = absurd (omega (arith, ones_le_self w))
two_bits (suc d) w h n = ⊎_elim
    (λ (e : w % 2 ≡ 1).
    let b = some_bit d (w / 2) (omega arith) (omega (arith, ones_step w, ones_le_self (w / 2))) in
    (0, suc b.0, omega arith, bit_at_lowest w ∙ e, bit_at-suc w b.0 ∙ b.1))
    (λ (e : w % 2 ≡ 1 → ⊥).
    let b = two_bits d (w / 2) (omega arith) (omega (arith, ones_step w)) in
    (suc b.0, suc b.1, omega (arith, b.2), bit_at-suc w b.0 ∙ b.3, bit_at-suc w b.1 ∙ b.4))
    (cases_eq (w % 2) 1)

pub two_is : (w : ℕ) → w < 2 ^ 32 → ltb 1 (ones w) ≡ two_below (bits_of w) 32
two_is w h = same_from_decides (ltb 1 (ones w)) (two_below (bits_of w) 32) (Decides-ltb 1 (ones w)) (
  (λ e.
      let f = some_found (λ k. bits_of w k && some_below (bits_of w) k) 32 e in
      let p = and_parts (bits_of w f.0) (some_below (bits_of w) f.0) f.2 in
      let g = some_found (bits_of w) f.0 p.1 in
      two_ones g.0 w f.0 g.1 (bit_in w g.0 g.2) (bit_in w f.0 p.0)),
  (λ n.
      let b = two_bits 32 w h n in
      let l : b.1 < 32 = bit_small w b.1 h b.4 in
      some_at (λ k. bits_of w k && some_below (bits_of w) k) 32 b.1 l
      (and_from (bits_of w b.1) (some_below (bits_of w) b.1) (bit_on w b.1 l b.4) (some_at (bits_of w) b.1 b.0 b.2 (bit_on w b.0 (omega (arith, b.2)) b.3)))),
)
  where
    bit_small : (w k : ℕ) → w < 2 ^ 32 → bit_at w k ≡ 1 → k < 32
    bit_small w k h e = ⊎_elim (λ l. l) (λ g. let z = bit_at_above w 32 k h g in absurd (omega arith)) (cases_lt k 32)
