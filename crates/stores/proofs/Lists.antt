-- The set that a list of pairs stands for, one pair further on.
use Rattle.std.proofs.Common.{◌≡◌, ℕ, ◌+◌, ◌<◌, Bool, true, false, ◌&&◌, ◌||◌, List, [], ◌∷◌, ◌++◌, length, get_or, take, sym, refl, ap, ◌∙◌}
use mathlib.Core.Path.{fun_ext}
use Rattle.std.proofs.lemmas.List.{take_more}
use Rattle.search.proofs.Ranges.{swap}
use Rattle.stores.specs.Pairs.{in_bounds, is_pair, with_pair, no_pairs}
use Rattle.stores.specs.Listed.{listed}
use Rattle.stores.specs.declared.pair.Pair.{Pair}

pub listed_none : listed [] ≡ no_pairs
unfolding listed no_pairs
listed_none = refl

listed_push_at : (ps : List Pair) (p : Pair) (a b : ℕ) → listed (ps ++ p ∷ []) a b ≡ with_pair (listed ps) p.left p.right a b
unfolding listed with_pair
listed_push_at [] p a b = refl
listed_push_at (q ∷ ps) p a b =
    rw (listed_push_at ps p a b) (swap (in_bounds q.left q.right && is_pair q.left q.right a b) (in_bounds p.left p.right && is_pair p.left p.right a b) (listed ps a b))

pub listed_push : (ps : List Pair) (p : Pair) → listed (ps ++ p ∷ []) ≡ with_pair (listed ps) p.left p.right
listed_push ps p = fun_ext λ a. fun_ext λ b. listed_push_at ps p a b

-- a turn of a loop that puts in each pair of a list
pub listed_step : (s t : ℕ → ℕ → Bool) (ps : List Pair) (i : ℕ) (d : Pair) → i < length ps → s ≡ listed (take i ps) → t ≡ with_pair s (get_or ps i d).left (get_or ps i d).right → t ≡ listed (take (i + 1) ps)
listed_step s t ps i d h e f =
    f ∙ ap (λ u. with_pair u (get_or ps i d).left (get_or ps i d).right) e ∙ sym (ap listed (take_more ps i d h) ∙ listed_push (take i ps) (get_or ps i d))
