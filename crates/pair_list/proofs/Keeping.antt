-- What a pair list keeps: its pairs in bounds, and room for each that is absent.
use Rattle.std.proofs.Common.{◌≡◌, ℕ, ◌<◌, true, List, [], ◌∷◌, ◌++◌, length, refl, arith}
use Rattle.std.specs.List.{remove}
use Rattle.index_set.specs.Distinct.{is_distinct}
use Rattle.std.proofs.ByRecursion.{all_from_every}
use Rattle.std.proofs.lemmas.List.{length_push}
use Rattle.index_set.specs.Found.{Absent}
use Rattle.index_set.specs.Inserting.{grown}
use Rattle.index_set.specs.declared.insertion.Insertion.{Insertion}
use Rattle.index_set.specs.declared.insertion.Insertion.TheVariants.{Inserted, AlreadyThere, Full}
use Rattle.index_set.proofs.Apart.{pass_push, pass_removed, apart_push}
use Rattle.stores.specs.Alike.{alike_pair}
use Rattle.stores.specs.Listed.{all_in_bounds}
use Rattle.stores.specs.Pairs.{in_bounds}
use Rattle.stores.specs.declared.pair.Pair.{Pair}
use Rattle.pair_list.proofs.Pigeonhole.{few_pairs}

pub bounds_none : all_in_bounds [] ≡ true
unfolding all_in_bounds
bounds_none = refl

bounds_push : (ps : List Pair) (p : Pair) → in_bounds p.left p.right ≡ true → all_in_bounds ps ≡ true → all_in_bounds (ps ++ p ∷ []) ≡ true
unfolding all_in_bounds
bounds_push ps p b h = pass_push (λ q. in_bounds q.left q.right) ps p h b

pub bounds_grown : (r : Insertion) (ps : List Pair) (p : Pair) → in_bounds p.left p.right ≡ true → all_in_bounds ps ≡ true → all_in_bounds (grown r ps p) ≡ true
bounds_grown (Inserted i) ps p b h = bounds_push ps p b h
bounds_grown (AlreadyThere i) ps p b h = h
bounds_grown Full ps p b h = h

pub bounds_removed : (ps : List Pair) (i : ℕ) → all_in_bounds ps ≡ true → all_in_bounds (remove ps i) ≡ true
unfolding all_in_bounds
bounds_removed ps i h = pass_removed (λ q. in_bounds q.left q.right) ps i h

-- there is room for a pair in bounds that is absent
pub never_full : (ps : List Pair) (p : Pair) → in_bounds p.left p.right ≡ true → all_in_bounds ps ≡ true → is_distinct alike_pair ps ≡ true → Absent alike_pair ps p → length ps < 2048
never_full ps p b h k a =
    let d = apart_push alike_pair ps p (all_from_every _ ps a) k in
    omega (arith, few_pairs (ps ++ p ∷ []) (bounds_push ps p b h) d, length_push ps p)
