-- A set of numbers put in one after another.
use Rattle.std.proofs.Common.{◌≡◌, ℕ, zero, suc, ◌+◌, ◌-◌, ◌<◌, ◌≤◌, true, false, ◌&&◌, eqb, leb, sym, ap, ◌∙◌, ap₂, ⊎_elim, arith}
use Rattle.rows.proofs.Bits.{bits_none}
use Rattle.rows.proofs.Numbers.{with_out, with_there}
use Rattle.rows.proofs.Putting.{row_out, row_there, row_absent, flip_in}
use Rattle.rows.specs.Numbers.{in_row, no_numbers, with_number, beyond}
use Rattle.rows.specs.Rows.{numbers, empty_row, row_with}
use Rattle.rows.specs.declared.row.Row.{Row}
use Rattle.search.proofs.Somes.{some_never}
use Rattle.std.proofs.lemmas.Bool.{and_parts, or_cases, eqb-true, leb-true, cases_Bool, cases_lt, true≢false}
use Rattle.tables.specs.Adding.{goes_beyond_lem}
use Rattle.drafting.specs.Effects.{row_from}

-- the numbers of a row with one put in
numbers_with : (s : Row) (n : ℕ) → numbers (row_with s n) ≡ with_number (numbers s) n
numbers_with s n = ⊎_elim
    (λ h. ⊎_elim
    (λ t. ap numbers (row_there s n t) ∙ sym (with_there (numbers s) n t))
    (λ f. flip_in s (row_with s n) n h (row_absent s n h f) f)
    (cases_Bool (numbers s n)))
    (λ h. ap numbers (row_out s n h) ∙ sym (with_out (numbers s) n h))
    (cases_lt n 32)

module _ (f : ℕ → ℕ) (i : ℕ) where
  pub none_yet : (s : Row) (n : ℕ) → n ≡ 0 → s ≡ empty_row → s ≡ row_from f i n
  unfolding row_from
  none_yet s n z e = e ∙ ap (row_from f i) (sym z)

  -- the number at p, behind those from i to p
  pub one_more : (s t : Row) (p m : ℕ) → i ≤ p → s ≡ row_from f i (p - i) → m ≡ f p → t ≡ row_with s m → t ≡ row_from f i (p + 1 - i)
  unfolding row_from
  one_more s t p m h before number put =
      let next : suc (p - i) ≡ p + 1 - i = omega arith in
      let here : p ≡ i + (p - i) = omega arith in
      put ∙ ap₂ row_with before (number ∙ ap f here) ∙ ap (row_from f i) next

  -- where all numbers that are put in are below a limit, so are all numbers of the set
  row_below : (limit n : ℕ) → ((j : ℕ) → j < n → f (i + j) < limit) → (k : ℕ) → numbers (row_from f i n) k ≡ true → k < limit
  unfolding row_from no_numbers with_number
  row_below limit zero low k e = absurd (true≢false (sym e ∙ ap (λ s. s k) bits_none))
  row_below limit (suc n) low k e =
      ⊎_elim
      (λ h. let same = eqb-true (f (i + n)) k (and_parts (in_row (f (i + n))) _ h).1 in omega (arith, low n (omega arith)))
      (λ h. row_below limit n (λ j l. low j (omega arith)) k h)
      (or_cases (in_row (f (i + n)) && eqb (f (i + n)) k) (numbers (row_from f i n) k) (sym (ap (λ s. s k) (numbers_with (row_from f i n) (f (i + n)))) ∙ e))

  pub none_beyond : (limit n : ℕ) → ((j : ℕ) → j < n → f (i + j) < limit) → goes_beyond_lem (numbers (row_from f i n)) limit ≡ false
  none_beyond limit n low = some_never (beyond (numbers (row_from f i n)) limit) 32 λ k _. ⊎_elim
      (λ t. let p = and_parts (leb limit k) _ t in absurd (omega (arith, leb-true limit k p.0, row_below limit n low k p.1)))
      (λ e. e)
      (cases_Bool (beyond (numbers (row_from f i n)) limit k))
