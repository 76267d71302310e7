use Rattle.std.proofs.Common.{refl, rules}
use Rattle.search.proofs.Somes.{some_none, some_more, some_answers, some_at}
use Rattle.std.proofs.lemmas.Bool.{and_from}
use Rattle.assignments.proofs.assignments.Assignments.has_path.Goals as goal
use Rattle.assignments.proofs.assignments.Assignments.has_path.Goals.{then-is_ready+else-loop-device_role-test, else-is_ready}

pub search-init : goal.search-init
search-init g c = (some_none _, refl)

pub loop-device_role-init : goal.loop-device_role-init
loop-device_role-init g c = (some_none _, c.search.invariant.1)

pub loop-device_role-preserved : goal.loop-device_role-preserved
loop-device_role-preserved g c = (some_more _ _ c.loop-device_role.invariant.0 (search rules), c.loop-device_role.invariant.1)

pub search-preserved : goal.search-preserved
search-preserved g c = (
  some_more _ _ c.search.invariant.0
      (elim c.if-is_ready.branch [ then-is_ready+else-loop-device_role-test w ↦ search rules | else-is_ready w ↦ search rules ]),
  search rules,
)

pub returns-then-contains-2 : goal.returns-then-contains-2
returns-then-contains-2 g c =
    some_answers _ _ c.search.place c.search-test.true
    (and_from _ _ (search rules) (some_at _ _ c.loop-device_role.device_role c.loop-device_role-test.true (search rules)))
