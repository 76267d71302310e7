-- No pair of a set is out of bounds: the facts that each make of set hands to the trait.
use Rattle.std.specs.Prelude.{◌≡◌, ℕ, true, ◌&&◌, List, [], ◌∷◌, get_or, ◌==◌, nat_lt, slice_index_or}
use Rattle.std.proofs.Common.{⊎_elim, sym, ◌∙◌, ap₂}
use Rattle.std.proofs.lemmas.Bool.{and_parts, and_from, or_cases, eqb-true, false≢true}
use Rattle.stores.specs.Listed.{listed}
use Rattle.rows.specs.Bounded.{row_bounded}
use Rattle.stores.specs.Pairs.{in_bounds, is_pair}
use Rattle.rows.specs.Rows.{numbers, empty_row}
use Rattle.stores.specs.Rows.{row_pairs}
use Rattle.stores.specs.declared.pair.Pair.{Pair}
use Rattle.rows.specs.declared.row.Row.{Row}

pub rows_bounded : (rows : List Row) (a b : ℕ) → row_pairs rows a b ≡ true → in_bounds a b ≡ true
unfolding row_pairs
rows_bounded rows a b e =
    let p = and_parts (nat_lt a 64) (numbers (slice_index_or rows a empty_row) b) e in
    and_from (nat_lt a 64) (nat_lt b 32) p.0 (row_bounded (get_or rows a empty_row) b p.1)

same_bounds : (l r a b : ℕ) → is_pair l r a b ≡ true → in_bounds l r ≡ true → in_bounds a b ≡ true
same_bounds l r a b e h =
    let p = and_parts (l == a) (r == b) e in
    ap₂ in_bounds (sym (eqb-true l a p.0)) (sym (eqb-true r b p.1)) ∙ h

pub listed_bounded : (ps : List Pair) (a b : ℕ) → listed ps a b ≡ true → in_bounds a b ≡ true
unfolding listed
listed_bounded [] a b h = absurd (false≢true h)
listed_bounded (q ∷ ps) a b h =
    ⊎_elim
    (λ t. let p = and_parts (in_bounds q.left q.right) (is_pair q.left q.right a b) t in same_bounds q.left q.right a b p.1 p.0)
    (λ t. listed_bounded ps a b t)
    (or_cases (in_bounds q.left q.right && is_pair q.left q.right a b) (listed ps a b) h)
