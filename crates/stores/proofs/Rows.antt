-- Rows of bits as a set of pairs.
use Rattle.std.proofs.Common.{◌≡◌, ℕ, ◌<◌, ◌≤◌, false, cond, not, ◌&&◌, ltb, List, length, get_or, set, replicate, sym, ap, ◌∙◌, ⊎_elim, arith}
use mathlib.Core.Bool.{and-false}
use mathlib.Core.Path.{fun_ext}
use Rattle.std.proofs.lemmas.List.{get_or-set_same, get_or-set_other, get_or-replicate}
use Rattle.std.proofs.lemmas.Bool.{cases_eq, cases_lt, lt-ltb, le-ltb}
use Rattle.std.proofs.lemmas.Bool.Decides.{nat_tests}
use Rattle.rows.specs.Numbers.{in_row, no_numbers, with_number, without_number}
use Rattle.stores.specs.Pairs.{in_bounds, with_pair, without_pair, no_pairs}
use Rattle.rows.specs.Rows.{numbers, empty_row, row_with}
use Rattle.stores.specs.Rows.{row_pairs, rows_with}
use Rattle.stores.specs.declared.bit_rows.BitRows.{BitRows}
use Rattle.rows.specs.declared.row.Row.{Row}

-- the row of a left number in bounds, and out of bounds
pub row_in : (rows : List Row) (l : ℕ) → l < 64 → row_pairs rows l ≡ numbers (get_or rows l empty_row)
unfolding row_pairs
row_in rows l h = fun_ext λ r. ap (λ b. b && numbers (get_or rows l empty_row) r) (lt-ltb l 64 h)

pub row_out : (rows : List Row) (l : ℕ) → 64 ≤ l → row_pairs rows l ≡ no_numbers
unfolding row_pairs no_numbers
row_out rows l h = fun_ext λ r. ap (λ b. b && numbers (get_or rows l empty_row) r) (le-ltb l 64 h)

-- equal rows that hold nothing
pub rows_none : (x : Row) → numbers x ≡ no_numbers → row_pairs (replicate 64 x) ≡ no_pairs
unfolding row_pairs no_pairs no_numbers
rows_none x e = fun_ext λ a. fun_ext λ b. ⊎_elim
    (λ h. rw (get_or-replicate 64 a x empty_row h) (ap (λ f. ltb a 64 && f b) e ∙ and-false (ltb a 64)))
    (λ h. ap (λ t. t && numbers (get_or (replicate 64 x) a empty_row) b) (le-ltb a 64 h))
    (cases_lt a 64)

-- Row l gives way to one that holds other numbers.
module _ (rows : List Row) (l r : ℕ) (w : Row) (p : l < 64) (n : l < length rows) where
  here : (a : ℕ) → a ≡ l → get_or (set rows l w) a empty_row ≡ w
  here a e = rw e (get_or-set_same rows l w empty_row n)

  pub put_in : numbers w ≡ with_number (numbers (get_or rows l empty_row)) r → row_pairs (set rows l w) ≡ with_pair (row_pairs rows) l r
  unfolding row_pairs with_pair with_number
  put_in e = fun_ext λ a. fun_ext λ b. ⊎_elim
      (λ h. let g = ap (λ x. numbers x b) (here a h) in let f = ap (λ s. s b) e in let o = ap (λ x. numbers (get_or rows x empty_row) b) h in grind (arith, nat_tests))
      (λ h. let g = ap (λ x. numbers x b) (get_or-set_other rows l a w empty_row h) in grind (arith, nat_tests))
      (cases_eq a l)

  pub taken_out : numbers w ≡ without_number (numbers (get_or rows l empty_row)) r → row_pairs (set rows l w) ≡ without_pair (row_pairs rows) l r
  unfolding row_pairs without_pair without_number
  taken_out e = fun_ext λ a. fun_ext λ b. ⊎_elim
      (λ h. let g = ap (λ x. numbers x b) (here a h) in let f = ap (λ s. s b) e in let o = ap (λ x. numbers (get_or rows x empty_row) b) h in grind (arith, nat_tests))
      (λ h. let g = ap (λ x. numbers x b) (get_or-set_other rows l a w empty_row h) in grind (arith, nat_tests))
      (cases_eq a l)

-- what the calls on one row answer, as answers of the set of pairs
pub answer_in : (rows : List Row) (l r : ℕ) → l < 64 → (in_row r && not (numbers (get_or rows l empty_row) r)) ≡ (in_bounds l r && not (row_pairs rows l r))
unfolding row_pairs
answer_in rows l r p = grind (arith, nat_tests)

pub answer_out : (rows : List Row) (l r : ℕ) → 64 ≤ l → false ≡ (in_bounds l r && not (row_pairs rows l r))
answer_out rows l r p = grind (arith, nat_tests)

-- the rows after a pair is put in: one row gives way, and none for a left number out of bounds
pub exact_in : (s : BitRows) (l r : ℕ) (w : Row) → l < 64 → w ≡ row_with (get_or s.rows l empty_row) r → record { rows = set s.rows l w } ≡ rows_with s l r
unfolding rows_with
exact_in s l r w h e =
    (λ i. record { rows = set s.rows l (e i) }) ∙ sym (ap (λ b. cond b (record { rows = set s.rows l (row_with (get_or s.rows l empty_row) r) }) s) (lt-ltb l 64 h))

pub exact_out : (s : BitRows) (l r : ℕ) → 64 ≤ l → s ≡ rows_with s l r
unfolding rows_with
exact_out s l r h = sym (ap (λ b. cond b (record { rows = set s.rows l (row_with (get_or s.rows l empty_row) r) }) s) (le-ltb l 64 h))
