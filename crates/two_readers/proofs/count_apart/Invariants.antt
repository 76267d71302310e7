use Rattle.std.proofs.Common.{◌≤◌}
use Rattle.two_readers.proofs.count_apart.Given as goal

abbrev pub invariant-loop-n : goal.invariant-loop-n
invariant-loop-n l = l.apart ≤ l.n
