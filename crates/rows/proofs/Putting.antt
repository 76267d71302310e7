-- A row with one number turned over, and with one put in.
use Rattle.std.proofs.Common.{◌≡◌, ℕ, ◌<◌, ◌≤◌, Bool, true, false, cond, not, ◌&&◌, eqb, refl, ap, ◌∙◌, arith}
use mathlib.Core.Path.{fun_ext}
use Rattle.std.proofs.lemmas.Bool.{lt-ltb, le-ltb}
use Rattle.std.proofs.lemmas.Bool.Decides.{nat_tests}
use Rattle.rows.specs.Numbers.{in_row, with_number, without_number}
use Rattle.rows.specs.Rows.{numbers, row_flipped, row_with}
use Rattle.rows.specs.declared.row.Row.{Row}
use Rattle.rows.proofs.Bits.{bits_flip}

-- t is s with the number n turned over
module _ (s t : Row) (n : ℕ) (h : n < 32) (f : t ≡ row_flipped s n) where
  turned : (k : ℕ) → numbers t k ≡ cond (eqb n k) (not (numbers s k)) (numbers s k)
  turned k = ap (λ x. numbers x k) f ∙ bits_flip s.bits n k h

  pub flip_in : numbers s n ≡ false → numbers t ≡ with_number (numbers s) n
  unfolding with_number
  flip_in e = fun_ext λ k. let g = turned k in grind (arith, nat_tests)

  pub flip_out : numbers s n ≡ true → numbers t ≡ without_number (numbers s) n
  unfolding without_number
  flip_out e = fun_ext λ k. let g = turned k in grind (arith, nat_tests)

-- a number out of range is not put in
pub row_out : (s : Row) (n : ℕ) → 32 ≤ n → row_with s n ≡ s
unfolding row_with
row_out s n h = rw (le-ltb n 32 h) refl

-- nor one that is there
pub row_there : (s : Row) (n : ℕ) → numbers s n ≡ true → row_with s n ≡ s
unfolding row_with
row_there s n e = by (in_row n)
  where
    by : (b : Bool) → cond (b && not (numbers s n)) (row_flipped s n) s ≡ s
    by true = ap (λ x. cond (not x) (row_flipped s n) s) e
    by false = refl

-- one that is absent and in range has its bit turned over
pub row_absent : (s : Row) (n : ℕ) → n < 32 → numbers s n ≡ false → row_with s n ≡ row_flipped s n
unfolding row_with
row_absent s n h e = ap (λ x. cond (x && not (numbers s n)) (row_flipped s n) s) (lt-ltb n 32 h) ∙ ap (λ x. cond (not x) (row_flipped s n) s) e
