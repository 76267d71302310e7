-- A field by the column at its place and the value there.
use Rattle.std.proofs.Common.{◌≡◌, ℕ, ◌+◌, true, ◌&&◌, ◌⊎◌, List, Some, None, Option, is_some, unwrap_or, sym, refl, ap, ◌∙◌, ap₂, ⊎_elim}
use Rattle.forms.specs.Fields.{value_at_lem}
use Rattle.kinds.specs.Columns.{column_at, permission_place_lem}
use Rattle.kinds.specs.declared.column.Column.{Column}
use Rattle.kinds.specs.declared.column.Column.TheVariants.{New, Number, Flag}
use Rattle.kinds.specs.declared.column.NameTable.{NameTable}
use Rattle.kinds.specs.declared.column.NameTable.TheVariants.{Things}
use Rattle.kinds.specs.declared.kind.Kind.{Kind}
use Rattle.tables.specs.Drafts.{permission_of}
use Rattle.tables.specs.declared.draft.Draft.{Draft}
use Rattle.tables.specs.declared.table.Thing.TheVariants.{Device, Operation}
use Rattle.sheets.specs.Numbers.{Lists, or_zero, named, number_in, number_at, formed}
use Rattle.sheets.specs.Judging.{known_in, known_at, permitted}

pub zero_or : (o : Option ℕ) → unwrap_or o 0 ≡ or_zero o
zero_or (Some n) = refl
zero_or None = refl

module _ (ls : Lists) (k : Kind) (vs : List (List ℕ)) (i : ℕ) (column : Column) (value : List ℕ) (here : column ≡ column_at k i) (there : value ≡ value_at_lem vs i) where
  pub says : number_in ls column value ≡ number_at ls k vs i
  unfolding number_at
  says = ap₂ (number_in ls) here there

  pub tells : known_in ls column value ≡ known_at ls k vs i
  unfolding known_at
  tells = ap₂ (known_in ls) here there

  -- neither a declared name nor a number
  pub says_none : ((t : NameTable) × (column ≡ New t)) ⊎ (column ≡ Flag) → 0 ≡ number_at ls k vs i
  says_none e = ⊎_elim (λ p. sym (ap (λ x. number_in ls x value) p.1)) (λ p. sym (ap (λ x. number_in ls x value) p)) e ∙ says

  -- no declared name
  pub tells_none : ((t : NameTable) × (column ≡ New t)) ⊎ ((column ≡ Number) ⊎ (column ≡ Flag)) → true ≡ known_at ls k vs i
  tells_none e =
      ⊎_elim (λ p. sym (ap (λ x. known_in ls x value) p.1))
      (⊎_elim (λ p. sym (ap (λ x. known_in ls x value) p)) (λ p. sym (ap (λ x. known_in ls x value) p))) e ∙ tells

module _ (ls : Lists) (d : Draft) (k : Kind) (vs : List (List ℕ)) where
  -- no permission is needed
  pub formed_none : None ≡ permission_place_lem k → None ≡ formed ls d k vs
  unfolding formed
  formed_none e = rw (sym e)

  -- device and operation are those at i and behind it
  pub formed_by : (i a b : ℕ) → Some i ≡ permission_place_lem k → a ≡ number_at ls k vs i → b ≡ number_at ls k vs (i + 1) → permission_of d a b ≡ formed ls d k vs
  unfolding formed
  formed_by i a b e p q = rw (sym e) (ap₂ (permission_of d) p q)

-- the device and the operation of a record P, looked up
module _ (ls : Lists) (d : Draft) (vs : List (List ℕ)) where
  pub permitted_by : (a b : Option ℕ) (v w : List ℕ) → v ≡ value_at_lem vs 0 → w ≡ value_at_lem vs 1 → a ≡ named ls (Things Device) v → b ≡ named ls (Things Operation) w
      → ((is_some a && is_some b) && is_some (permission_of d (or_zero a) (or_zero b))) ≡ permitted ls d vs
  unfolding known_at number_at
  permitted_by a b v w e f p q =
      ap₂ (λ x y. (is_some x && is_some y) && is_some (permission_of d (or_zero x) (or_zero y))) (p ∙ ap (named ls (Things Device)) e) (q ∙ ap (named ls (Things Operation)) f)
