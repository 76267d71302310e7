-- The row of the numbers that a set holds.
use Rattle.std.proofs.Common.{◌≡◌, ℕ, zero, suc, ◌+◌, ◌<◌, ◌≤◌, Bool, true, false, cond, sym, refl, ap, ◌∙◌, subst, add-one, arith}
use mathlib.Core.Path.{fun_ext}
use Rattle.conditions.proofs.Gathering.{Gathered, none_gathered, one_more, none_more}
use Rattle.rows.specs.Numbers.{no_numbers, in_row, with_number}
use Rattle.rows.specs.Rows.{numbers, row_with}
use Rattle.rows.specs.declared.row.Row.{Row}
use Rattle.rows.proofs.Bits.{bits_none}
use Rattle.rows.proofs.Numbers.{with_there}
use Rattle.rows.proofs.Putting.{flip_in, row_there, row_absent}
use Rattle.std.proofs.lemmas.Bool.Decides.{nat_tests}
use Rattle.requests.specs.Calls.{gathered_below, gathered}

-- a row with one number put in holds that number and those before
numbers_with : (s : Row) (n : ℕ) → n < 32 → numbers (row_with s n) ≡ with_number (numbers s) n
numbers_with s n h = by (numbers s n) refl
  where
    by : (b : Bool) → numbers s n ≡ b → numbers (row_with s n) ≡ with_number (numbers s) n
    by true e = ap numbers (row_there s n e) ∙ sym (with_there (numbers s) n e)
    by false e = flip_in s (row_with s n) n h (row_absent s n h e) e

gathered_holds : (f : ℕ → Bool) (n : ℕ) → n ≤ 32 → Gathered (numbers (gathered_below f n)) f n
unfolding gathered_below
gathered_holds f zero h = λ k. ap (λ s. s k) bits_none ∙ none_gathered no_numbers f refl k
gathered_holds f (suc n) h = subst (λ m. Gathered (numbers (cond (f n) (row_with (gathered_below f n) n) (gathered_below f n))) f m) (rw add-one refl) (by (f n) refl (gathered_holds f n (omega arith)))
  where
    by : (b : Bool) → f n ≡ b → Gathered (numbers (gathered_below f n)) f n
        → Gathered (numbers (cond b (row_with (gathered_below f n) n) (gathered_below f n))) f (n + 1)
    by true e i = λ k. ap (λ s. s k) (numbers_with (gathered_below f n) n (omega arith)) ∙ one_more (numbers (gathered_below f n)) (with_number (numbers (gathered_below f n)) n) f n (omega arith) i e refl k
    by false e i = none_more (numbers (gathered_below f n)) (numbers (gathered_below f n)) f n i e refl

-- the row of a set of numbers below 32 holds exactly these
pub gathered_is : (f : ℕ → Bool) → ((k : ℕ) → f k ≡ true → in_row k ≡ true) → numbers (gathered f) ≡ f
gathered_is f b = fun_ext λ k. let j = gathered_holds f 32 (omega arith) k in let m = b k in grind (arith, nat_tests)
