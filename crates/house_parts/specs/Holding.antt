-- To whom leases are out, for whom sessions live, and which roles are active in them.
use Rattle.std.specs.Prelude.{ℕ, Bool, cond, ◌&&◌, List, map, None, Option, nat_lt, slice_index_or}
use Rattle.rows.specs.Rows.{numbers, empty_row}
use Rattle.rows.specs.declared.row.Row.{Row}
use Rattle.house_parts.specs.declared.leases.Leases.{Leases}
use Rattle.house_parts.specs.declared.sessions.Sessions.{Sessions}

-- the user at a place below 16
unfoldable pub place_of : List (Option ℕ) → ℕ → Option ℕ
place_of users k = cond (nat_lt k 16) (slice_index_or users k None) None

-- whether the number r is in the row at a place below 16
unfoldable pub rows_of : List Row → ℕ → ℕ → Bool
rows_of rows k r = nat_lt k 16 && numbers (slice_index_or rows k empty_row) r

-- the user to whom each unit's lease is out
unfoldable pub holder_of : Leases → ℕ → Option ℕ
holder_of s = place_of s.users

-- the user for whom each session lives
unfoldable pub user_of : Sessions → ℕ → Option ℕ
user_of s = place_of (map (λ x. x.user) s.sessions)

-- which role is active in which session
unfoldable pub active_of : Sessions → ℕ → ℕ → Bool
active_of s = rows_of (map (λ x. x.active) s.sessions)
