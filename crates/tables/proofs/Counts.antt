-- The counts of an empty draft, and the items that count.
use Rattle.std.proofs.Common.{◌≡◌, ℕ, min, List, length, get_or, take, replicate, sym, refl, ap, ◌∙◌, ⊎_elim, arith}
use Rattle.std.proofs.lemmas.List.{take_all}
use Rattle.std.proofs.lemmas.Bool.{cases_lt}
use Rattle.tables.specs.Drafts.{count}
use Rattle.tables.specs.Indices.{thing_index}
use Rattle.tables.specs.declared.draft.Draft.{Draft}
use Rattle.tables.specs.declared.table.Table.{Table}
use Rattle.tables.specs.declared.table.Table.TheVariants.{Things, Permissions, RolePairs, Entries}
use Rattle.tables.specs.declared.table.Thing.{Thing}
use Rattle.tables.specs.declared.table.Thing.TheVariants.{User, Role, Device, Operation, DeviceRole, Condition, EnvironmentRole}

none_of : (t : Thing) → ◌≡◌ {A = ℕ} (get_or (replicate 8 0) (thing_index t) 0) 0
none_of User = refl
none_of Role = refl
none_of Device = refl
none_of Operation = refl
none_of DeviceRole = refl
none_of Condition = refl
none_of EnvironmentRole = refl
none_of Thing.Unit = refl

pub none_counted : (d : Draft) → d.counts ≡ replicate 8 0 → d.permissions.count ≡ 0 → d.role_pairs.count ≡ 0 → d.entries.count ≡ 0 → (t : Table) → count d t ≡ 0
none_counted d e p q n (Things t) = ap (λ l. get_or l (thing_index t) 0) e ∙ none_of t
none_counted d e p q n Permissions = p
none_counted d e p q n RolePairs = q
none_counted d e p q n Entries = n

-- the first items of a list of 64, as many as are counted
pub listed_first : {X : Type 0} (n m : ℕ) (xs : List X) → length xs ≡ 64 → m ≡ min n 64 → take m xs ≡ take n xs
listed_first n m xs h e = ⊎_elim
    (λ k. let z : m ≡ n = omega arith in ap (λ i. take i xs) z)
    (λ k. take_all m xs (omega arith) ∙ sym (take_all n xs (omega arith)))
    (cases_lt n 64)
