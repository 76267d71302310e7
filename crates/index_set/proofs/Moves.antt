-- Items that move up by one to close a gap.
use Rattle.std.proofs.Common.{◌≡◌, ℕ, suc, ◌+◌, ◌-◌, ◌<◌, ◌≤◌, List, length, get_or, take, sym, ap, ◌∙◌, ⊎_elim, arith}
use Rattle.std.specs.List.{remove, CopiedTo, SameBelow}
use Rattle.std.proofs.lemmas.List.{length-take-le, get_or-take, same_lists, take_all, drop_all, append-nil}
use Rattle.std.proofs.lemmas.List.Edits.{length-remove, get_or-remove_below, get_or-remove_above}
use Rattle.std.proofs.lemmas.Bool.{cases_lt}

-- those behind i moved up by one, so of the first n the one at i is gone
pub gap_closed : {X : Type 0} (xs ys : List X) (i n : ℕ) → i < n → n ≤ length xs → length ys ≡ length xs → SameBelow xs ys i → CopiedTo xs ys (i + 1) i (n - (i + 1)) → take (n - 1) ys ≡ remove (take n xs) i
gap_closed xs ys i n low high long before moved =
    let a : length (take (n - 1) ys) ≡ n - 1 = length-take-le (n - 1) ys (omega (arith, long)) in
    let b : length (take n xs) ≡ n = length-take-le n xs high in
    let l : i < length (take n xs) = omega arith in
    same_lists _ _ (omega (arith, length-remove (take n xs) i l)) (λ k d h. get_or-take (n - 1) ys k d (omega arith) ∙ ⊎_elim
    (λ c. before k d c ∙ sym (get_or-take n xs k d (omega arith)) ∙ sym (get_or-remove_below (take n xs) i d k c l))
    (λ c.
    let e : i + 1 + (k - i) ≡ k + 1 = omega arith in
    moved k d c (omega arith) ∙ ap (λ t. get_or xs t d) e ∙ sym (get_or-take n xs (k + 1) d (omega arith)) ∙ sym (get_or-remove_above (take n xs) i d k c l))
    (cases_lt k i))

-- a list that i does not reach is left as it is
pub removed_past : {X : Type 0} (xs : List X) (i : ℕ) → length xs ≤ i → remove xs i ≡ xs
removed_past xs i h = rw (take_all i xs h, drop_all (suc i) xs (omega arith)) (append-nil xs)
