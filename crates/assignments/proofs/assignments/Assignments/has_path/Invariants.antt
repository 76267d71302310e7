use Rattle.std.proofs.Common.{◌≡◌, false, ◌&&◌}
use Rattle.rows.specs.Rows.{numbers}
use Rattle.search.specs.Below.{some_below}
use Rattle.assignments.specs.Assigned.{assigned}
use Rattle.assignments.specs.Paths.{way_by}
use Rattle.assignments.proofs.assignments.Assignments.has_path.Given as goal

abbrev pub invariant-search : goal.invariant-search
invariant-search g l =
    (some_below (way_by l.draft (assigned g.S.PairSet.pairs g.T.PairSet.pairs l.self) (numbers l.active) (numbers l.environment_roles) l.permission) l.place ≡ false)
    × (l.found ≡ false)

abbrev pub invariant-loop-device_role : goal.invariant-loop-device_role
invariant-loop-device_role g l =
    (some_below (λ e. g.S.PairSet.pairs l.self.role_pairs l.place e && g.T.PairSet.pairs l.self.permissions l.permission e) l.device_role ≡ false)
    × (l.found ≡ false)
