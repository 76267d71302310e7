-- The tables of names and the lists stay equally long.
use Rattle.std.proofs.Common.{◌≡◌, ℕ, ◌+◌, ◌<◌, Bool, true, false, cond, List, [], ◌∷◌, ◌++◌, length, get_or, set, sym, refl, ap, ◌∙◌, ⊎_elim, arith, lit<}
use Rattle.kinds.specs.declared.column.NameTable.{NameTable}
use Rattle.kinds.specs.declared.column.NameTable.TheVariants.{Things, RolePairs}
use Rattle.names.specs.Spellings.{with_name}
use Rattle.names.specs.Tables.{table_of, same_table}
use Rattle.sheets.specs.Numbers.{Lists}
use Rattle.std.proofs.lemmas.List.{length_push, get_or-set_same, get_or-set_other}
use Rattle.std.proofs.lemmas.Bool.{cases_eq, eq-eqb, ne_eqb}
use Rattle.tables.specs.Adding.{with_thing, with_role_pair}
use Rattle.tables.specs.Drafts.{things, count}
use Rattle.tables.specs.Indices.{thing_index}
use Rattle.tables.specs.declared.draft.Draft.{Draft}
use Rattle.tables.specs.declared.parts.RolePair.{RolePair}
use Rattle.tables.specs.declared.table.Thing.{Thing}
use Rattle.tables.specs.declared.table.Thing.TheVariants.{User, Role, Device, Operation, DeviceRole, Condition, EnvironmentRole}

-- there are as many names in each table as items in its list
abbrev pub Counted : Lists → Draft → Type 0
Counted ls d = (t : NameTable) → length (ls t) ≡ count d (table_of t)

-- one more where the tables are the same
abbrev more : NameTable → NameTable → ℕ → ℕ
more t u n = cond (same_table t u) (n + 1) n

names_more : (ls : Lists) (t u : NameTable) (v : List ℕ) → length (with_name ls t v u) ≡ more t u (length (ls u))
unfolding with_name
names_more ls t u v = by (same_table t u)
  where
    by : (b : Bool) → length (cond b (ls u ++ v ∷ []) (ls u)) ≡ cond b (length (ls u) + 1) (length (ls u))
    by true = length_push (ls u) v
    by false = refl

index_below : (t : Thing) → thing_index t < 8
index_below User = lit< tt
index_below Role = lit< tt
index_below Device = lit< tt
index_below Operation = lit< tt
index_below DeviceRole = lit< tt
index_below Condition = lit< tt
index_below EnvironmentRole = lit< tt
index_below Thing.Unit = lit< tt

things_more : (d : Draft) (t : Thing) → length d.counts ≡ 8 → (u : NameTable) → count (with_thing d t) (table_of u) ≡ more (Things t) u (count d (table_of u))
things_more d t long (Things u) =
    let inside : thing_index t < length d.counts = omega (arith, index_below t) in
    ⊎_elim
    (λ (e : thing_index u ≡ thing_index t).
    ap (λ i. get_or (set d.counts (thing_index t) (things d t + 1)) i 0) e ∙ get_or-set_same d.counts (thing_index t) (things d t + 1) 0 inside
    ∙ ap (λ i. get_or d.counts i 0 + 1) (sym e) ∙ sym (ap (λ b. cond b (things d u + 1) (things d u)) (eq-eqb (thing_index t) (thing_index u) (sym e))))
    (λ e. get_or-set_other d.counts (thing_index t) (thing_index u) (things d t + 1) 0 e
    ∙ sym (ap (λ b. cond b (things d u + 1) (things d u)) (ne_eqb (thing_index t) (thing_index u) (λ f. e (sym f)))))
    (cases_eq (thing_index u) (thing_index t))
things_more d t long RolePairs =
    let n = d.role_pairs.count in
    sym (ap (λ b. cond b (n + 1) n) (ne_eqb (thing_index t) 8 (λ e. omega (arith, index_below t))))

pairs_more : (d : Draft) (q : RolePair) (u : NameTable) → count (with_role_pair d q) (table_of u) ≡ more RolePairs u (count d (table_of u))
pairs_more d q (Things u) = sym (ap (λ b. cond b (things d u + 1) (things d u)) (ne_eqb 8 (thing_index u) (λ e. omega (arith, index_below u))))
pairs_more d q RolePairs = refl

module _ (ls : Lists) (d e : Draft) (counted : Counted ls d) where
  -- one more name in a table, and one more item in its list
  module _ (ns : Lists) (t : NameTable) (v : List ℕ) (names : ns ≡ with_name ls t v) where
    joined : ((u : NameTable) → count e (table_of u) ≡ more t u (count d (table_of u))) → Counted ns e
    joined longer u = ap (λ f. length (f u)) names ∙ names_more ls t u v ∙ ap (more t u) (counted u) ∙ sym (longer u)

  pub counted_thing : (ns : Lists) (t : Thing) (v : List ℕ) → ns ≡ with_name ls (Things t) v → length d.counts ≡ 8 → e ≡ with_thing d t → Counted ns e
  counted_thing ns t v names long after = joined ns (Things t) v names (λ u. ap (λ x. count x (table_of u)) after ∙ things_more d t long u)

  pub counted_pair : (ns : Lists) (q : RolePair) (v : List ℕ) → ns ≡ with_name ls RolePairs v → e ≡ with_role_pair d q → Counted ns e
  counted_pair ns q v names after = joined ns RolePairs v names (λ u. ap (λ x. count x (table_of u)) after ∙ pairs_more d q u)
