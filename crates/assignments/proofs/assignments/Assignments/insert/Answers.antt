use Rattle.assignments.proofs.Spots.{put_role_pair, put_permission}
use Rattle.assignments.proofs.assignments.Assignments.insert.Goals as goal

pub returns-in-RolePair : goal.returns-in-RolePair
returns-in-RolePair g c =
    put_role_pair _ _ _ c.args.spot c.in-RolePair.role_pair c.in-RolePair.device_role c.in-RolePair.is c.requires c.insert.ensures.after

pub returns-in-Permission : goal.returns-in-Permission
returns-in-Permission g c =
    put_permission _ _ _ c.args.spot c.in-Permission.permission c.in-Permission.device_role c.in-Permission.is c.requires c.insert-in-Permission.ensures.after
