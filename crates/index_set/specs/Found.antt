-- Where an item stands in a list.
use Rattle.std.specs.Prelude.{◌≡◌, ℕ, suc, ◌<◌, Bool, true, false, cond, List, [], ◌∷◌, length, Some, None, Option}
use Rattle.std.specs.List.{slice_get, HoldsAt, AllWithin}
use Rattle.std.specs.Option.{option_map}

module _ {X : Type 0} (alike : X → X → Bool) where
  -- In words: no item of the list is the same as x.
  abbrev pub Absent : List X → X → Type 0
  Absent xs x = AllWithin (λ y. alike y x ≡ false) xs 0 (length xs)

  -- In words: the first item that is the same as x stands at i.
  abbrev pub Found : List X → X → ℕ → Type 0
  Found xs x i = (i < length xs) × HoldsAt (λ y. alike y x ≡ true) xs i × AllWithin (λ y. alike y x ≡ false) xs 0 i

  -- the index of the first item that is the same as x
  unfoldable pub place_of : List X → X → Option ℕ
  place_of [] x = None
  place_of (y ∷ ys) x = cond (alike y x) (Some 0) (option_map suc (place_of ys x))

  -- whether an item, if there is one, is the same as x
  abbrev pub is_alike : Option X → X → Bool
  is_alike None x = false
  is_alike (Some y) x = alike y x

  -- whether the item at i is there and the same as x
  abbrev pub is_alike_at : List X → ℕ → X → Bool
  is_alike_at xs i x = is_alike (slice_get xs i) x
