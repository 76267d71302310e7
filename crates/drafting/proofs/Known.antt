-- A declared name has a number below the count of its list, and a permission that is found is declared.
use Rattle.std.proofs.Common.{◌≡◌, ℕ, suc, ◌<◌, ◌≤◌, Bool, true, false, cond, List, [], ◌∷◌, length, is_some, Some, None, Option, sym, refl, subst, arith}
use Rattle.forms.specs.Fields.{value_at_lem}
use Rattle.index_set.specs.Found.{place_of}
use Rattle.kinds.specs.Columns.{column_at}
use Rattle.kinds.specs.declared.column.Column.{Column}
use Rattle.kinds.specs.declared.column.Column.TheVariants.{Known}
use Rattle.kinds.specs.declared.column.NameTable.{NameTable}
use Rattle.kinds.specs.declared.kind.Kind.{Kind}
use Rattle.names.specs.Tables.{table_of}
use Rattle.search.proofs.Finds.{first_at}
use Rattle.sheets.specs.Judging.{known_in, known_at}
use Rattle.sheets.specs.Numbers.{Lists, or_zero, named, number_in, number_at}
use Rattle.std.proofs.lemmas.Bool.{and_from, and_parts, lt-ltb, true≢false}
use Rattle.std.specs.Option.{option_map}
use Rattle.std.specs.Str.{bytes_eq}
use Rattle.tables.specs.Drafts.{count, declared, is_permission_lem, permission_of}
use Rattle.tables.specs.Limits.{table_limit}
use Rattle.tables.specs.declared.draft.Draft.{Draft}
use Rattle.tables.specs.declared.table.Table.TheVariants.{Permissions}

-- a place is one of the list's
place_below : (xs : List (List ℕ)) (v : List ℕ) (n : ℕ) → place_of bytes_eq xs v ≡ Some n → n < length xs
unfolding place_of
place_below [] v n e = absurd (let z : ◌≡◌ {A = ℕ} 0 1 = cc in omega arith)
place_below (y ∷ ys) v n e = by (bytes_eq y v) (place_of bytes_eq ys v) (λ m p. place_below ys v m p) e
  where
    by : (b : Bool) (o : Option ℕ) → ((m : ℕ) → o ≡ Some m → m < length ys) → cond b (Some 0) (option_map suc o) ≡ Some n → n < length (y ∷ ys)
    by true o below q = let z : 0 ≡ n = cc in omega arith
    by false None below q = absurd (let z : ◌≡◌ {A = ℕ} 0 1 = cc in omega arith)
    by false (Some m) below q = let h = below m refl in let z : suc m ≡ n = cc in omega arith

-- there are as many names in each table as items in its list, and no more than it can have
module _ (ls : Lists) (d : Draft) (counted : (t : NameTable) → length (ls t) ≡ count d (table_of t)) (within : (t : NameTable) → length (ls t) ≤ table_limit (table_of t)) where
  named_declared : (t : NameTable) (v : List ℕ) (o : Option ℕ) → named ls t v ≡ o → is_some o ≡ true → declared d (table_of t) (or_zero o) ≡ true
  named_declared t v None e h = absurd (true≢false (sym h))
  named_declared t v (Some n) e h =
      let below = place_below (ls t) v n e in
      and_from _ _ (lt-ltb n (count d (table_of t)) (omega (arith, counted t))) (lt-ltb n (table_limit (table_of t)) (omega (arith, within t)))

  -- the number of a name that is declared is declared
  pub declared_at : (k : Kind) (vs : List (List ℕ)) (i : ℕ) (t : NameTable) → column_at k i ≡ Known t → known_at ls k vs i ≡ true → declared d (table_of t) (number_at ls k vs i) ≡ true
  unfolding number_at known_at
  declared_at k vs i t col h =
      let P : Column → Type 0 = λ c. known_in ls c (value_at_lem vs i) ≡ true → declared d (table_of t) (number_in ls c (value_at_lem vs i)) ≡ true in
      subst P (sym col) (λ e. named_declared t (value_at_lem vs i) (named ls t (value_at_lem vs i)) refl e) h

-- a permission that is found is declared
pub permission_declared : (d : Draft) (a b : ℕ) (o : Option ℕ) → permission_of d a b ≡ o → is_some o ≡ true → declared d Permissions (or_zero o) ≡ true
permission_declared d a b None e h = absurd (true≢false (sym h))
permission_declared d a b (Some p) e h = (and_parts (declared d Permissions p) _ (first_at (is_permission_lem d a b) (table_limit Permissions) p e).1).0
