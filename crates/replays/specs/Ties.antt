-- The leases that are held are those that are out.
use Rattle.std.specs.Prelude.{◌≡◌, ℕ, Bool, true, not, is_some, Some, None, Option}
use Rattle.rules.specs.declared.call.LeaseNumbers.{LeaseNumbers}
use Rattle.replays.specs.Holding.{is_lease}

-- the lease of the unit u of the house n, out to the user if there is one
abbrev pub lease_for : ℕ → ℕ → Option ℕ → Option LeaseNumbers
lease_for n u None = None
lease_for n u (Some w) = Some (record { house = n; unit = u; user = w })

-- whether that lease is the one that is held, and none is where it is not out
abbrev pub is_tied : ℕ → ℕ → Option ℕ → Option LeaseNumbers → Bool
is_tied n u None lease = not (is_some lease)
is_tied n u (Some w) lease = is_lease lease (record { house = n; unit = u; user = w })

-- of every unit the lease that is held is the one that is out
abbrev pub Tied : ℕ → (ℕ → Option ℕ) → (ℕ → Option LeaseNumbers) → Type 0
Tied n out held = (u : ℕ) → is_tied n u (out u) (held u) ≡ true
