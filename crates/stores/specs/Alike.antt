use Rattle.std.specs.Prelude.{Bool}
use Rattle.stores.specs.Pairs.{is_pair}
use Rattle.stores.specs.declared.pair.Pair.{Pair}

-- two pairs are the same where both numbers are
abbrev pub alike_pair : Pair → Pair → Bool
alike_pair p q = is_pair p.left p.right q.left q.right
