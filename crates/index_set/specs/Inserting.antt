-- What an insertion answers, and the items after it.
use Rattle.std.specs.Prelude.{◌≡◌, ℕ, ◌<◌, ◌≤◌, Bool, cond, List, [], ◌∷◌, ◌++◌, length, Some, None, Option, nat_lt}
use Rattle.index_set.specs.Found.{Absent, Found, place_of}
use Rattle.index_set.specs.declared.insertion.Insertion.{Insertion}
use Rattle.index_set.specs.declared.insertion.Insertion.TheVariants.{Inserted, AlreadyThere, Full}

-- the answer where the same item stands at a place, or at none, among n items of at most limit
abbrev pub placed : Option ℕ → ℕ → ℕ → Insertion
placed (Some i) n limit = AlreadyThere i
placed None n limit = cond (nat_lt n limit) (Inserted n) Full

-- the answer to the insertion of x into xs, at most limit items
abbrev pub insertion_of : {X : Type 0} → (X → X → Bool) → ℕ → List X → X → Insertion
insertion_of alike limit xs x = placed (place_of alike xs x) (length xs) limit

-- In words: it went in behind the others, as no item is the same and there was room; or the same item stands at this
-- place; or no item is the same and there is no room.
abbrev pub Inserts : {X : Type 0} → (X → X → Bool) → ℕ → List X → X → Insertion → Type 0
Inserts alike limit xs x (Inserted i) = (i ≡ length xs) × Absent alike xs x × (length xs < limit)
Inserts alike limit xs x (AlreadyThere i) = Found alike xs x i
Inserts alike limit xs x Full = Absent alike xs x × (limit ≤ length xs)

-- the items after it
abbrev pub grown : {X : Type 0} → Insertion → List X → X → List X
grown (Inserted i) xs x = xs ++ x ∷ []
grown (AlreadyThere i) xs x = xs
grown Full xs x = xs
