-- Rowan House: a small family's house as a draft.
-- Users 0 bob, 1 ann, 2 cam; roles 0 parent, 1 kid; devices 0 tv, 1 oven; operations 0 play, 1 heat; device roles 0 fun, 1 kitchen;
-- condition 0 evening; environment role 0 leisure; units 0 games, 1 home.
use Rattle.std.specs.Prelude.{ℕ, ◌-◌, List, [], ◌∷◌, ◌++◌, map, length, replicate}
use Rattle.rows.specs.declared.row.Row.{Row}
use Rattle.stores.specs.declared.bit_rows.BitRows.{BitRows}
use Rattle.tables.specs.declared.draft.Draft.{Draft}
use Rattle.tables.specs.declared.items.Items.{Items}
use Rattle.tables.specs.declared.parts.Entry.{Entry}
use Rattle.tables.specs.declared.parts.Permission.{Permission}
use Rattle.tables.specs.declared.parts.RolePair.{RolePair}

-- a list filled up to n items
abbrev pub filled : {A : Type 0} → ℕ → A → List A → List A
filled n z xs = xs ++ replicate (n - length xs) z

-- a list of a draft: items, and a blank for the places after them
abbrev pub listing : {A : Type 0} → A → List A → Items A
listing z xs = record { count = length xs; places = filled 64 z xs }

-- the set of the numbers that the bits of n stand for
abbrev pub row : ℕ → Row
row n = record { bits = n }

-- none, one or both of the numbers 0 and 1
abbrev pub neither : ℕ
neither = 0

abbrev pub only_0 : ℕ
only_0 = 1

abbrev pub only_1 : ℕ
only_1 = 2

abbrev pub both_of : ℕ
both_of = 3

-- a relation: for each left number the right ones
abbrev pub pairs_of : List ℕ → BitRows
pairs_of rights = record { rows = filled 64 (row 0) (map row rights) }

abbrev pub permission : ℕ → ℕ → Permission
permission device operation = record { device = device; operation = operation }

abbrev pub role_pair : ℕ → ℕ → RolePair
role_pair role asked = record { role = role; environment_roles = row asked }

abbrev pub entry : ℕ → ℕ → Entry
entry role conditions = record { environment_role = role; conditions = row conditions }

-- the house with the role pair assignment and the role pairs of the role tasks given
abbrev pub house_with : List ℕ → List ℕ → Draft
house_with assigned tasks =
    record {
      number = 7;
      counts = 3 ∷ 2 ∷ 2 ∷ 2 ∷ 2 ∷ 1 ∷ 1 ∷ 2 ∷ [];
      permissions = listing (permission 0 0) (permission 0 0 ∷ permission 1 1 ∷ []);
      role_pairs = listing (role_pair 0 neither) (role_pair 1 only_0 ∷ role_pair 0 neither ∷ role_pair 1 neither ∷ []);
      entries = listing (entry 0 neither) (entry 0 only_0 ∷ []);
      relations =
          -- user roles: bob and ann parent, cam kid
          pairs_of (only_0 ∷ only_0 ∷ only_1 ∷ [])
          -- permission assignment: tv play to fun, oven heat to kitchen
          ∷ pairs_of (only_0 ∷ only_1 ∷ [])
          ∷ pairs_of assigned
          -- bars: oven heat to kid
          ∷ pairs_of (neither ∷ only_1 ∷ [])
          -- static separation: parent and kid; dynamic separation: none
          ∷ pairs_of (only_1 ∷ [])
          ∷ pairs_of []
          -- administrators: bob of both units, ann of home
          ∷ pairs_of (both_of ∷ only_1 ∷ [])
          -- the units whose role task has each role pair, and each device role
          ∷ pairs_of tasks
          ∷ pairs_of (both_of ∷ both_of ∷ [])
          -- the units whose permission task has each permission, and each device role
          ∷ pairs_of (only_1 ∷ only_1 ∷ [])
          ∷ pairs_of (only_1 ∷ only_1 ∷ [])
          -- prohibited: kid with leisure, on kitchen
          ∷ pairs_of (only_1 ∷ []) ∷ [];
    }

-- parent is assigned to kitchen; role pairs 0 and 2 are in the role task of games, 1 in that of home
abbrev pub rowan : Draft
rowan = house_with (neither ∷ only_1 ∷ []) (only_0 ∷ only_1 ∷ only_0 ∷ [])

-- kid with leisure is assigned to kitchen too, a prohibited pair
abbrev pub with_prohibited : Draft
with_prohibited = house_with (only_1 ∷ only_1 ∷ []) (only_0 ∷ only_1 ∷ only_0 ∷ [])

-- the role pair 2 is in the role tasks of both units
abbrev pub with_overlap : Draft
with_overlap = house_with (neither ∷ only_1 ∷ []) (only_0 ∷ only_1 ∷ both_of ∷ [])
