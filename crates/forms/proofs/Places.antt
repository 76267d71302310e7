-- The values of fields, place by place.
use Rattle.std.proofs.Common.{◌≡◌, ℕ, ◌+◌, ◌-◌, ◌<◌, ◌≤◌, List, [], map, length, get_or, take, drop, sym, ap, ◌∙◌, arith, length-drop}
use Rattle.std.proofs.lemmas.Grind.{get_or_after_one}
use Rattle.std.proofs.lemmas.List.{length-map, get_or-map, take_rest}
use lib.ListN.{get_or-eq_default}
use Rattle.records.specs.declared.field.Field.{Field}
use Rattle.records.specs.Views.{value_of}
use Rattle.forms.specs.Fields.{values, value_at_lem}

-- there are as many values as fields
pub length_values : (fs : List Field) → length (values fs) ≡ length fs
unfolding values
length_values fs = rw length-map

pub length_rest : (fs : List Field) → length (take (length fs - 1) (drop 1 fs)) ≡ length fs - 1
length_rest fs = ap length (take_rest fs 1) ∙ length-drop 1 fs

module _ (fs : List Field) (i : ℕ) where
  -- the field at a place among those behind the record name
  value_in : (d : Field) → i + 1 < length fs → value_of (get_or (take (length fs - 1) (drop 1 fs)) i d) ≡ value_at_lem (values fs) i
  unfolding values value_at_lem
  value_in d h =
      let next : 1 + i ≡ i + 1 = omega arith in
      ap (λ xs. value_of (get_or xs i d)) (take_rest fs 1) ∙ ap value_of (get_or_after_one fs i d ∙ ap (λ n. get_or fs n d) next) ∙ sym (get_or-map value_of fs (i + 1) d [] h)

  value_out : length fs ≤ i + 1 → [] ≡ value_at_lem (values fs) i
  unfolding values value_at_lem
  value_out h = sym (get_or-eq_default (map value_of fs) [] (rw length-map h))

  module _ (vs : List (List ℕ)) (is : values fs ≡ vs) where
    pub value_here : (d : Field) (v : List ℕ) → v ≡ value_of (get_or (take (length fs - 1) (drop 1 fs)) i d) → i + 1 < length fs → v ≡ value_at_lem vs i
    value_here d v e h = e ∙ value_in d h ∙ ap (λ x. value_at_lem x i) is

    pub value_past : length fs ≤ i + 1 → [] ≡ value_at_lem vs i
    value_past h = value_out h ∙ ap (λ x. value_at_lem x i) is
