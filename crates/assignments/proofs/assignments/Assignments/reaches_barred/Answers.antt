use Rattle.std.proofs.Common.{ℕ, ◌&&◌, rules, tests}
use Rattle.rules.specs.Reaching.{barred, column_barred}
use Rattle.search.proofs.Ranges.{any_below}
use Rattle.assignments.proofs.assignments.Assignments.reaches_barred.Goals as goal

pub returns : goal.returns
unfolding column_barred
returns g c =
    let test = λ (p : ℕ). g.T.PairSet.pairs c.args.self.now.permissions p c.args.device_role && barred c.args.draft.now c.args.role_pair p in
    any_below test 64 _ _ _ c.any.ensures.ran (λ x b q k. search (rules, tests))
