-- The place of a name, by names and by their bytes.
use Rattle.std.proofs.Common.{◌≡◌, ℕ, suc, ◌<◌, Bool, true, false, cond, List, [], ◌∷◌, ◌++◌, length, Some, None, sym, refl, ap, ◌∙◌, arith}
use Rattle.index_set.specs.Found.{place_of}
use Rattle.index_set.specs.Inserting.{insertion_of, placed, grown}
use Rattle.index_set.specs.declared.insertion.Insertion.{Insertion}
use Rattle.index_set.specs.declared.insertion.Insertion.TheVariants.{Inserted, Full}
use Rattle.std.proofs.lemmas.Slice.Eq.{bytes_eq-Decides}
use Rattle.std.proofs.lemmas.List.{length-map, map_push}
use Rattle.std.proofs.lemmas.Bool.{true≢false, lt-ltb}
use Rattle.std.specs.Option.{option_map}
use Rattle.std.specs.Str.{bytes_eq}
use Rattle.values.proofs.Named.{spelt_name}
use Rattle.values.specs.Names.{spells_name, spelling, same_spelling}
use Rattle.values.specs.declared.name.Name.{Name}
use Rattle.names.specs.Spelt.{spelt}

-- names are told apart by their bytes, so the place of a name is the place of its bytes
pub place_spelt : (ns : List Name) (n : Name) → place_of same_spelling ns n ≡ place_of bytes_eq (spelt ns) (spelling n)
unfolding place_of
place_spelt [] n = refl
place_spelt (m ∷ ms) n = ap (λ o. cond (same_spelling m n) (Some 0) (option_map suc o)) (place_spelt ms n)

pub place_name : (ns : List Name) (n : Name) (s : List ℕ) → spelling n ≡ s → place_of same_spelling ns n ≡ place_of bytes_eq (spelt ns) s
place_name ns n s is = place_spelt ns n ∙ ap (place_of bytes_eq (spelt ns)) is

-- no name is spelt by bytes that spell none
other : (n : Name) (s : List ℕ) → spells_name s ≡ false → bytes_eq (spelling n) s ≡ false
other n s bad = by (bytes_eq (spelling n) s) refl
  where
    by : (b : Bool) → bytes_eq (spelling n) s ≡ b → bytes_eq (spelling n) s ≡ false
    by true e = absurd (true≢false (sym (spelt_name n) ∙ ap spells_name ((bytes_eq-Decides (spelling n) s).0 e) ∙ bad))
    by false e = e

-- so they have no place
pub place_bad : (ns : List Name) (s : List ℕ) → spells_name s ≡ false → place_of bytes_eq (spelt ns) s ≡ None
unfolding place_of
place_bad [] s bad = refl
place_bad (m ∷ ms) s bad =
    ap (λ b. cond b (Some 0) (option_map suc (place_of bytes_eq (spelt ms) s))) (other m s bad) ∙ ap (option_map suc) (place_bad ms s bad)

-- a name that is absent goes in behind the others where there is room
pub put_behind : (ns : List Name) (limit : ℕ) (n : Name) (r : Insertion) → place_of bytes_eq (spelt ns) (spelling n) ≡ None → length (spelt ns) < limit
    → r ≡ insertion_of same_spelling limit ns n → spelt (grown r ns n) ≡ spelt ns ++ spelling n ∷ []
put_behind ns limit n r absent room answer = ap (λ x. spelt (grown x ns n)) (answer ∙ in_room) ∙ map_push spelling ns n
  where
    in_room : insertion_of same_spelling limit ns n ≡ Inserted (length ns)
    in_room =
        let long = length-map ns spelling in
        ap (λ o. placed o (length ns) limit) (place_spelt ns n ∙ absent) ∙ ap (λ b. cond b (Inserted (length ns)) Full) (lt-ltb (length ns) limit (omega arith))
