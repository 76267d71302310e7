use Rattle.std.proofs.Common.{◌≡◌, None}
use Rattle.search.specs.Firsts.{first_below, first_pair, Computes}
use Rattle.search.proofs.hits.first_hit.Given as goal

abbrev pub invariant-loop-left : goal.invariant-loop-left
invariant-loop-left g l = (hit : _) → Computes (goal.F-post g l.test) l.lefts l.rights hit → first_pair hit l.left l.rights ≡ None

abbrev pub invariant-loop-right : goal.invariant-loop-right
invariant-loop-right g l = (hit : _) → Computes (goal.F-post g l.test) l.lefts l.rights hit → first_below (hit l.left) l.right ≡ None
