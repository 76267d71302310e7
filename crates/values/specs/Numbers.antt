-- The number that a part writes.
use Rattle.std.specs.List.{list_all}
use Rattle.std.specs.Prelude.{ℕ, ◌+◌, ◌-◌, ◌*◌, Bool, cond, not, ◌&&◌, List, [], ◌∷◌, length, Some, None, Option, ◌==◌, nat_le, nat_lt, slice_index}

abbrev pub digit : ℕ → Bool
digit c = nat_le 48 c && nat_le c 57

abbrev pub digits : List ℕ → Bool
digits s = list_all digit s

-- the value of digits, after those that write n
abbrev pub value_after : ℕ → List ℕ → ℕ
value_after n [] = n
value_after n (c ∷ cs) = value_after (10 * n + (c - 48)) cs

-- 1 to 6 digits, the first of which is 0 only if it stands alone
abbrev pub numeral : List ℕ → Bool
numeral s = nat_le 1 (length s) && nat_le (length s) 6 && digits s && not (nat_lt 1 (length s) && slice_index s 0 == 48)

abbrev pub number_of : List ℕ → Option ℕ
number_of s = cond (numeral s) (Some (value_after 0 s)) None
