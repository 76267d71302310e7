-- One table with one more name.
use Rattle.std.proofs.Common.{◌≡◌, ℕ, Bool, true, false, cond, eqb, List, [], ◌∷◌, ◌++◌, sym, refl, ap, ◌∙◌}
use mathlib.Core.Path.{fun_ext}
use Rattle.kinds.specs.declared.column.NameTable.{NameTable}
use Rattle.kinds.specs.declared.column.NameTable.TheVariants.{Things, RolePairs}
use Rattle.std.proofs.lemmas.Bool.{eqb-true}
use Rattle.tables.specs.declared.table.Thing.{Thing}
use Rattle.tables.specs.declared.table.Thing.TheVariants.{User, Role, Device, Operation, DeviceRole, Condition, EnvironmentRole}
use Rattle.names.specs.Spellings.{with_name}
use Rattle.names.specs.Tables.{table_index, same_table}

-- the index of a table tells which it is
table_at : ℕ → NameTable
table_at i =
    cond (eqb i 0) (Things User) (cond (eqb i 1) (Things Role) (cond (eqb i 2) (Things Device) (cond (eqb i 3) (Things Operation)
    (cond (eqb i 4) (Things DeviceRole) (cond (eqb i 5) (Things Condition) (cond (eqb i 6) (Things EnvironmentRole)
    (cond (eqb i 7) (Things Thing.Unit) RolePairs)))))))

back : (t : NameTable) → table_at (table_index t) ≡ t
unfolding table_at
back (Things User) = refl
back (Things Role) = refl
back (Things Device) = refl
back (Things Operation) = refl
back (Things DeviceRole) = refl
back (Things Condition) = refl
back (Things EnvironmentRole) = refl
back (Things Thing.Unit) = refl
back RolePairs = refl

pub same_from : (t u : NameTable) → same_table t u ≡ true → t ≡ u
same_from t u e = sym (back t) ∙ ap table_at (eqb-true (table_index t) (table_index u) e) ∙ back u

-- what holds of each table holds of all
pub each_table : (P : NameTable → Type 0) → P (Things User) → P (Things Role) → P (Things Device) → P (Things Operation) → P (Things DeviceRole)
    → P (Things Condition) → P (Things EnvironmentRole) → P (Things Thing.Unit) → P RolePairs → (t : NameTable) → P t
each_table P a b c d e f g h i (Things User) = a
each_table P a b c d e f g h i (Things Role) = b
each_table P a b c d e f g h i (Things Device) = c
each_table P a b c d e f g h i (Things Operation) = d
each_table P a b c d e f g h i (Things DeviceRole) = e
each_table P a b c d e f g h i (Things Condition) = f
each_table P a b c d e f g h i (Things EnvironmentRole) = g
each_table P a b c d e f g h i (Things Thing.Unit) = h
each_table P a b c d e f g h i RolePairs = i

-- after differs from before in the table t alone, which has the name s more; table is t, as a match has it
module _ (before after : NameTable → List (List ℕ)) (t : NameTable) (s : List ℕ) (more : after t ≡ before t ++ s ∷ []) where
  named_at : (u : NameTable) (b : Bool) → same_table t u ≡ b → cond b (after t) (before u) ≡ cond b (before u ++ s ∷ []) (before u)
  named_at u true e = more ∙ ap (λ v. before v ++ s ∷ []) (same_from t u e)
  named_at u false e = refl

  pub name_added : (table : NameTable) → table ≡ t → ((u : NameTable) → after u ≡ cond (same_table t u) (after t) (before u)) → after ≡ with_name before table s
  unfolding with_name
  name_added table is others = (fun_ext λ u. others u ∙ named_at u (same_table t u) refl) ∙ ap (λ v. with_name before v s) (sym is)
