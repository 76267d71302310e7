-- The items of a set, read off its memory.
use Rattle.std.proofs.Common.{◌≡◌, ℕ, ◌<◌, ◌≤◌, length, get_or, Some, None, ap, ◌∙◌, arith}
use Rattle.std.proofs.lemmas.List.{length-take-le, get_or-take}
use Rattle.std.proofs.lemmas.Option.{slice_get-get_or, slice_get_past}
use Rattle.std.specs.List.{slice_get}
use Rattle.index_set.specs.Items.{items_of}
use Rattle.index_set.specs.declared.index_set.IndexSet.{IndexSet}

module _ {X : Type 0} {g : _} (s : IndexSet X g) where
  pub items_length : length (items_of s) ≡ s.len
  items_length = length-take-le s.len s.places.now (omega (arith, s.within, s.fits))

  pub items_at : (i : ℕ) (d : X) → i < s.len → slice_get (items_of s) i ≡ Some (get_or s.places.now i d)
  items_at i d h = slice_get-get_or (items_of s) i d (omega (arith, items_length)) ∙ ap Some (get_or-take s.len s.places.now i d h)

  pub items_past : (i : ℕ) → s.len ≤ i → slice_get (items_of s) i ≡ None
  items_past i h = slice_get_past (items_of s) i (omega (arith, items_length))
