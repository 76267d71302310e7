-- The bytes of names.
use Rattle.std.specs.Prelude.{◌≡◌, ℕ, ◌≤◌, Bool, ◌&&◌, ◌||◌, List, ◌==◌, nat_le, slice_index}
use Rattle.std.specs.List.{list_all}

-- a to z, A to Z, 0 to 9, or an underscore
abbrev pub letter : ℕ → Bool
letter b = (nat_le 97 b && nat_le b 122) || ((nat_le 65 b && nat_le b 90) || ((nat_le 48 b && nat_le b 57) || b == 95))

abbrev pub letters : List ℕ → Bool
letters s = list_all letter s

-- nothing but zeros from n on
abbrev pub Blank : ℕ → List ℕ → Type 0
Blank n bs = (k : ℕ) → n ≤ k → slice_index bs k ≡ 0
