use Rattle.assignments.proofs.Spots.{take_role_pair, take_permission}
use Rattle.assignments.proofs.assignments.Assignments.remove.Goals as goal

pub returns-in-RolePair : goal.returns-in-RolePair
returns-in-RolePair g c =
    take_role_pair _ _ _ c.args.spot c.in-RolePair.role_pair c.in-RolePair.device_role c.in-RolePair.is c.remove.ensures.after

pub returns-in-Permission : goal.returns-in-Permission
returns-in-Permission g c =
    take_permission _ _ _ c.args.spot c.in-Permission.permission c.in-Permission.device_role c.in-Permission.is c.remove-in-Permission.ensures.after
