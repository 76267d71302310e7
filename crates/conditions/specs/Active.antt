-- The environment roles that entries make active under the conditions that hold.
use Rattle.std.specs.Prelude.{◌≡◌, ℕ, ◌<◌, Bool, true, cond, not, ◌||◌, List, [], ◌∷◌, length, Decides, slice_index_or}
use Rattle.search.specs.Below.{all_below}
use Rattle.rows.specs.Numbers.{in_row, no_numbers, with_number}
use Rattle.rows.specs.Rows.{numbers, empty_row}
use Rattle.tables.specs.declared.parts.Entry.{Entry}
use Rattle.conditions.specs.Limits.{condition_count}

-- whether all conditions of a set hold
unfoldable pub all_hold : (ℕ → Bool) → (ℕ → Bool) → Bool
all_hold wanted holding = all_below (λ k. not (wanted k) || holding k) condition_count

-- the active environment roles: the first entry's if all its conditions hold, with those of the rest
unfoldable pub active : (ℕ → Bool) → List Entry → (ℕ → Bool)
active holding [] = no_numbers
active holding (e ∷ es) = cond (all_hold (numbers e.conditions) holding) (with_number (active holding es) e.environment_role) (active holding es)

-- In words: the entry has the environment role k, and all its conditions hold.
abbrev pub Activates : (ℕ → Bool) → Entry → ℕ → Type 0
Activates holding e k = (e.environment_role ≡ k) × ((c : ℕ) → numbers e.conditions c ≡ true → holding c ≡ true)

abbrev pub no_entry : Entry
no_entry = record { environment_role = 0; conditions = empty_row }

-- In words, of a set of roles: an environment role is in it exactly when one single entry activates it.
abbrev pub ActiveByOne : (ℕ → Bool) → List Entry → (ℕ → Bool) → Type 0
ActiveByOne holding entries roles = (k : ℕ) → in_row k ≡ true → Decides (roles k) ((i : ℕ) × (i < length entries) × Activates holding (slice_index_or entries i no_entry) k)
