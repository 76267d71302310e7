-- What bytes of a name's length spell.
use Rattle.std.proofs.Common.{◌≡◌, ℕ, ◌<◌, ◌≤◌, List, length, arith}
use Rattle.std.proofs.lemmas.Bool.Decides.{nat_tests}
use Rattle.values.specs.Letters.{letters}
use Rattle.values.specs.Names.{spells_name}

pub by_letters : (s : List ℕ) → 0 < length s → length s ≤ 24 → letters s ≡ spells_name s
by_letters s some few = grind (arith, nat_tests)
