-- The items of a list with their places.
use Rattle.std.proofs.Common.{◌≡◌, ℕ, ◌<◌, Bool, List, length, get_or, min, zip, ap, ◌∙◌, arith}
use Rattle.std.specs.List.{list_any, range_with_len}
use Rattle.std.proofs.lemmas.List.FromFn.{length-range_with_len, get_or-range_with_len}
use Rattle.std.proofs.lemmas.Slice.Zip.{get_or-zip, length-zip}
use Rattle.search.specs.Below.{some_below}
use Rattle.search.proofs.Anys.{any_list}

pub any_place : {X : Type 0} (f : ℕ → X → Bool) (xs : List X) (z : X) (n : ℕ) → length xs ≡ n
    → list_any (λ (t : ℕ × X). f t.0 t.1) (zip (range_with_len 0 n) xs) ≡ some_below (λ k. f k (get_or xs k z)) n
any_place {X} f xs z n e =
    any_list (λ (t : ℕ × X). f t.0 t.1) (zip (range_with_len 0 n) xs) (0, z) (λ k. f k (get_or xs k z)) n
    (let l : length (zip (range_with_len 0 n) xs) ≡ min (length (range_with_len 0 n)) (length xs) = length-zip (range_with_len 0 n) xs in
    let m : length (range_with_len 0 n) ≡ n = length-range_with_len 0 n in
    omega (arith, l, m, e))
    (λ k b.
    let a : k < length (range_with_len 0 n) = omega (arith, length-range_with_len 0 n) in
    let j : get_or (range_with_len 0 n) k 0 ≡ k = omega (arith, get_or-range_with_len 0 n k 0 b) in
    ap (λ (t : ℕ × X). f t.0 t.1) (get_or-zip (range_with_len 0 n) xs k (0, z) a (omega (arith, e)))
    ∙ ap (λ i. f i (get_or xs k z)) j)
