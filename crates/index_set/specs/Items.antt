-- What a set holds, and what its methods keep.
use Rattle.std.specs.Prelude.{◌≡◌, ℕ, ◌<◌, ◌≤◌, List, [], length, take, Ok, Err, Result}
use Rattle.refusals.specs.declared.refusal.Refusal.{Refusal}
use Rattle.refusals.specs.declared.refusal.Refusal.TheVariants.{MemoryTooShort}
use Rattle.index_set.specs.declared.index_set.IndexSet.{IndexSet}

-- the items of the set, in order of arrival
abbrev pub items_of : {X : Type 0} {g : _} → IndexSet X g → List X
items_of s = take s.len s.places.now

-- What comes of making a set for at most limit items over a memory: the empty set, or refusal 2.
abbrev pub Made : {X : Type 0} {g : _} → ℕ → List X → Result (IndexSet X g) Refusal → Type 0
Made limit memory (Ok s) = (limit ≤ length memory) × (s.limit ≡ limit) × (items_of s ≡ [])
Made limit memory (Err e) = (length memory < limit) × (e ≡ MemoryTooShort)
