-- The record name, which is the first value.
use Rattle.std.proofs.Common.{◌≡◌, ◌<◌, ◌≤◌, List, [], ◌∷◌, length, get_or, refl, arith}
use Rattle.forms.specs.Fields.{values}
use Rattle.records.specs.Views.{value_of}
use Rattle.records.specs.declared.field.Field.{Field}

pub first_value : (fs : List Field) (d : Field) → 0 < length fs → value_of (get_or fs 0 d) ≡ get_or (values fs) 0 []
unfolding values
first_value [] d h = absurd (omega arith)
first_value (f ∷ fs) d h = refl

pub no_value : (fs : List Field) → length fs ≤ 0 → [] ≡ get_or (values fs) 0 []
unfolding values
no_value [] h = refl
no_value (f ∷ fs) h = absurd (omega arith)
