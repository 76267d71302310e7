-- The index of an item, from the words.
use Rattle.std.proofs.Common.{◌≡◌, ℕ, zero, suc, ◌<◌, Bool, true, false, List, [], ◌∷◌, length, get_or, Some, None, refl, subst, arith}
use Rattle.std.proofs.lemmas.List.Elements.{at_read}
use Rattle.std.specs.List.{HoldsAt, AllWithin}
use Rattle.index_set.specs.Found.{Absent, Found, place_of}

module _ {X : Type 0} (alike : X → X → Bool) where
  pub place_absent : (xs : List X) (x : X) → Absent alike xs x → place_of alike xs x ≡ None
  unfolding place_of
  place_absent [] x h = refl
  place_absent (y ∷ ys) x h = rw (h 0 y (omega arith) (omega arith), place_absent ys x (λ k d l u. h (suc k) d (omega arith) (omega arith)))

  pub place_found : (xs : List X) (x : X) (i : ℕ) → Found alike xs x i → place_of alike xs x ≡ Some i
  unfolding place_of
  place_found [] x i h = absurd (omega (arith, h.0))
  place_found (y ∷ ys) x zero h = rw (h.1 y)
  place_found (y ∷ ys) x (suc i) h =
      rw (h.2 0 y (omega arith) (omega arith), place_found ys x i (omega (arith, h.0), h.1, λ k d l u. h.2 (suc k) d (omega arith) (omega arith)))

  -- the item y, read at i of the list ys, which is xs, is the first that is the same as x
  pub found_in : (ys xs : List X) (x : X) (i : ℕ) (y : X) → ys ≡ xs → i < length ys → y ≡ get_or ys i y → alike y x ≡ true → AllWithin (λ z. alike z x ≡ false) xs 0 i → Found alike xs x i
  found_in ys xs x i y e h r a b =
      (subst (λ zs. i < length zs) e h, subst (λ zs. HoldsAt (λ z. alike z x ≡ true) zs i) e (at_read ys (λ z. alike z x ≡ true) i y h r a), b)
