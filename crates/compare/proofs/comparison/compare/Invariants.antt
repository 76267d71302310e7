use Rattle.std.proofs.Common.{◌≡◌, ◌≤◌, length, take, vec_items, vec_len, vec_capacity}
use Rattle.compare.specs.Agreeing.{Agreed}
use Rattle.compare.proofs.comparison.compare.Given as goal

abbrev pub invariant-loop-step : goal.invariant-loop-step
invariant-loop-step g l =
    (vec_len l.answers ≡ l.step-index) × (length l.steps ≤ vec_capacity l.answers)
    × Agreed l.opening (take l.step-index l.steps) (vec_items l.answers) (g.S.PairSet.pairs l.one) (g.T.PairSet.pairs l.two)
