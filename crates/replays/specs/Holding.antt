-- Leases that are held, by unit.
use Rattle.std.specs.Prelude.{ℕ, Bool, false, cond, ◌&&◌, List, Some, None, Option, ◌==◌, nat_lt, slice_index_or}
use Rattle.house.specs.declared.lease.Lease.{Lease}
use Rattle.rules.specs.declared.call.LeaseNumbers.{LeaseNumbers}
use Rattle.replays.specs.declared.held.HeldLeases.{HeldLeases}

-- the numbers of a lease, if there is one
abbrev pub numbers_in : Option Lease → Option LeaseNumbers
numbers_in None = None
numbers_in (Some l) = Some l.numbers

-- the lease in the place of each unit
unfoldable pub held_in : List (Option Lease) → ℕ → Option LeaseNumbers
held_in places u = cond (nat_lt u 16) (numbers_in (slice_index_or places u None)) None

abbrev pub held_of : HeldLeases → ℕ → Option LeaseNumbers
held_of h = held_in h.by_unit

unfoldable pub none_held : ℕ → Option LeaseNumbers
none_held u = None

-- the leases with another one, or none, for the unit u
unfoldable pub with_held : (ℕ → Option LeaseNumbers) → ℕ → Option LeaseNumbers → (ℕ → Option LeaseNumbers)
with_held held u lease = λ v. cond (u == v) lease (held v)

abbrev pub same_numbers : LeaseNumbers → LeaseNumbers → Bool
same_numbers a b = (a.house == b.house && a.unit == b.unit) && a.user == b.user

-- the lease, if there is one, has these numbers
abbrev pub is_lease : Option LeaseNumbers → LeaseNumbers → Bool
is_lease None k = false
is_lease (Some j) k = same_numbers j k
