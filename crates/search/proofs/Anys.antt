-- The library's search of a list as a test of numbers.
use Rattle.std.proofs.Common.{◌≡◌, ℕ, ◌<◌, Bool, false, List, length, get_or, sym, ◌∙◌, ⊎_elim, arith}
use Rattle.std.specs.List.{list_any}
use Rattle.std.proofs.lemmas.Bool.{cases_Bool}
use Rattle.std.proofs.lemmas.List.Elements.{All-from_get_or}
use Rattle.std.proofs.lemmas.List.Folds.{list_any_at, list_any_none}
use Rattle.search.specs.Below.{some_below}
use Rattle.search.proofs.Somes.{some_found, some_left}

pub any_list : {X : Type 0} (f : X → Bool) (xs : List X) (d : X) (g : ℕ → Bool) (n : ℕ) → length xs ≡ n
    → ((k : ℕ) → k < n → f (get_or xs k d) ≡ g k) → list_any f xs ≡ some_below g n
any_list f xs d g n e h = ⊎_elim
    (λ t. let w = some_found g n t in list_any_at f xs w.0 d (omega (arith, e, w.1)) (h w.0 w.1 ∙ w.2) ∙ sym t)
    (λ u. list_any_none f xs (All-from_get_or (λ x. f x ≡ false) xs d (λ i l. let b : i < n = omega (arith, e) in h i b ∙ some_left g n i u b)) ∙ sym u)
    (cases_Bool (some_below g n))
