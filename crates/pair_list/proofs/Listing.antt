-- A list of different pairs as a set: what is there, what is absent, and one taken out.
use Rattle.std.proofs.Common.{◌≡◌, ℕ, zero, suc, ◌<◌, Bool, true, false, not, List, [], ◌∷◌, length, get_or, is_some, Some, None, Option, sym, refl, arith, MatchOption}
use mathlib.Core.Path.{fun_ext}
use Rattle.std.specs.List.{remove, HoldsAt, list_all, AllByRecursion}
use Rattle.index_set.specs.Distinct.{is_distinct}
use Rattle.std.proofs.ByRecursion.{all_from_every}
use Rattle.std.proofs.lemmas.Bool.{and_parts, not-true}
use Rattle.std.proofs.lemmas.Bool.Decides.{nat_tests}
use Rattle.index_set.specs.Found.{Absent, Found}
use Rattle.stores.specs.Alike.{alike_pair}
use Rattle.stores.specs.Listed.{listed, all_in_bounds}
use Rattle.stores.specs.Pairs.{in_bounds, without_pair}
use Rattle.stores.specs.declared.pair.Pair.{Pair}

all_absent : (ps : List Pair) (p : Pair) → AllByRecursion (λ q. alike_pair q p ≡ false) ps → listed ps p.left p.right ≡ false
unfolding listed
all_absent [] p h = refl
all_absent (q ∷ ps) p h = let f = all_absent ps p h.1 in grind (arith, nat_tests)

pub listed_absent : (ps : List Pair) (p : Pair) → Absent alike_pair ps p → listed ps p.left p.right ≡ false
listed_absent ps p h = all_absent ps p (all_from_every _ ps h)

found_at : (ps : List Pair) (p : Pair) (i : ℕ) → all_in_bounds ps ≡ true → i < length ps → HoldsAt (λ q. alike_pair q p ≡ true) ps i → listed ps p.left p.right ≡ true
unfolding listed all_in_bounds
found_at [] p i b h t = absurd (omega arith)
found_at (q ∷ ps) p zero b h t = let e = t q in grind (arith, nat_tests)
found_at (q ∷ ps) p (suc i) b h t =
    let a = and_parts (in_bounds q.left q.right) _ b in
    let f = found_at ps p i a.1 (omega arith) t in grind (arith, nat_tests)

pub listed_found : (ps : List Pair) (p : Pair) (i : ℕ) → all_in_bounds ps ≡ true → Found alike_pair ps p i → listed ps p.left p.right ≡ true
listed_found ps p i b f = found_at ps p i b f.0 f.1

-- what the search for a pair tells
pub listed_told : (ps : List Pair) (p : Pair) (o : Option ℕ) → all_in_bounds ps ≡ true → MatchOption o (Absent alike_pair ps p) (Found alike_pair ps p) → is_some o ≡ listed ps p.left p.right
listed_told ps p None b h = sym (listed_absent ps p h)
listed_told ps p (Some i) b h = sym (listed_found ps p i b h)

-- the first pair of a list of different ones is absent from the rest
rest_absent : (q : Pair) (ps : List Pair) → list_all (λ z. not (alike_pair q z)) ps ≡ true → AllByRecursion (λ z. alike_pair z q ≡ false) ps
rest_absent q [] h = tt
rest_absent q (z ∷ ps) h =
    let a = and_parts (not (alike_pair q z)) (list_all (λ z. not (alike_pair q z)) ps) h in
    (grind (arith, nat_tests), rest_absent q ps a.1)

pass_at : (f : Pair → Bool) (ps : List Pair) (i : ℕ) (d : Pair) → i < length ps → list_all f ps ≡ true → f (get_or ps i d) ≡ true
pass_at f [] i d h k = absurd (omega arith)
pass_at f (q ∷ ps) zero d h k = (and_parts (f q) (list_all f ps) k).0
pass_at f (q ∷ ps) (suc i) d h k = pass_at f ps i d (omega arith) (and_parts (f q) (list_all f ps) k).1

removed_at : (ps : List Pair) (p : Pair) (i : ℕ) → all_in_bounds ps ≡ true → is_distinct alike_pair ps ≡ true → i < length ps → HoldsAt (λ q. alike_pair q p ≡ true) ps i → (a b : ℕ) → listed (remove ps i) a b ≡ without_pair (listed ps) p.left p.right a b
unfolding listed all_in_bounds without_pair
removed_at [] p i b k h t x y = absurd (omega arith)
removed_at (q ∷ ps) p zero b k h t x y =
    let a = and_parts (list_all (λ z. not (alike_pair q z)) ps) (is_distinct alike_pair ps) k in
    let n : listed ps q.left q.right ≡ false = all_absent ps q (rest_absent q ps a.0) in
    let e = t q in
    grind (arith, nat_tests)
removed_at (q ∷ ps) p (suc i) b k h t x y =
    let a = and_parts (list_all (λ z. not (alike_pair q z)) ps) (is_distinct alike_pair ps) k in
    let o = and_parts (in_bounds q.left q.right) _ b in
    let f = removed_at ps p i o.1 a.1 (omega arith) t x y in
    let e = t q in
    let n = not-true (alike_pair q (get_or ps i q)) (pass_at (λ z. not (alike_pair q z)) ps i q (omega arith) a.0) in
    grind (arith, nat_tests)

pub listed_removed : (ps : List Pair) (p : Pair) (i : ℕ) → all_in_bounds ps ≡ true → is_distinct alike_pair ps ≡ true → Found alike_pair ps p i → listed (remove ps i) ≡ without_pair (listed ps) p.left p.right
listed_removed ps p i b k f = fun_ext λ x. fun_ext λ y. removed_at ps p i b k f.0 f.1 x y
