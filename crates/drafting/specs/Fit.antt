-- When a record does what it says.
use Rattle.std.specs.Prelude.{◌≡◌, ℕ, true, false, List, length}
use Rattle.forms.specs.Spelling.{all_spelt}
use Rattle.kinds.specs.Columns.{takes}
use Rattle.kinds.specs.declared.kind.Kind.{Kind}
use Rattle.sheets.specs.Judging.{all_known, already, is_full_lem}
use Rattle.sheets.specs.Numbers.{Lists}
use Rattle.tables.specs.declared.draft.Draft.{Draft}

-- In words: none of the reasons 6 to 10 applies, and vs are the values of all fields of the record.
pub record Fit (ls : Lists) (d : Draft) (k : Kind) (vs : List (List ℕ)) : Type 0 where
  pub counted : takes k (length vs) ≡ true
  pub spelt : all_spelt k vs ≡ true
  pub fresh : already ls d k vs ≡ false
  pub known : all_known ls d k vs ≡ true
  pub room : is_full_lem d k ≡ false
