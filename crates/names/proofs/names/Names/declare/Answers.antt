use Rattle.std.proofs.Common.{refl, ap, ◌∙◌}
use Rattle.kinds.specs.declared.column.NameTable.TheVariants.{Things, RolePairs}
use Rattle.tables.specs.declared.table.Thing.TheVariants as thing
use Rattle.names.proofs.Registers.{each_table, name_added}
use Rattle.names.proofs.names.Names.declare.Goals as goal

pub returns-in-User : goal.returns-in-User
returns-in-User c = name_added _ _ (Things thing.User) _ c.put.ensures _ (c.in-Things.is ∙ ap Things c.in-User.is) (each_table _ refl refl refl refl refl refl refl refl refl)

pub returns-in-Role : goal.returns-in-Role
returns-in-Role c = name_added _ _ (Things thing.Role) _ c.put-in-Role.ensures _ (c.in-Things.is ∙ ap Things c.in-Role.is) (each_table _ refl refl refl refl refl refl refl refl refl)

pub returns-in-Device : goal.returns-in-Device
returns-in-Device c = name_added _ _ (Things thing.Device) _ c.put-in-Device.ensures _ (c.in-Things.is ∙ ap Things c.in-Device.is) (each_table _ refl refl refl refl refl refl refl refl refl)

pub returns-in-Operation : goal.returns-in-Operation
returns-in-Operation c = name_added _ _ (Things thing.Operation) _ c.put-in-Operation.ensures _ (c.in-Things.is ∙ ap Things c.in-Operation.is) (each_table _ refl refl refl refl refl refl refl refl refl)

pub returns-in-DeviceRole : goal.returns-in-DeviceRole
returns-in-DeviceRole c = name_added _ _ (Things thing.DeviceRole) _ c.put-in-DeviceRole.ensures _ (c.in-Things.is ∙ ap Things c.in-DeviceRole.is) (each_table _ refl refl refl refl refl refl refl refl refl)

pub returns-in-Condition : goal.returns-in-Condition
returns-in-Condition c = name_added _ _ (Things thing.Condition) _ c.put-in-Condition.ensures _ (c.in-Things.is ∙ ap Things c.in-Condition.is) (each_table _ refl refl refl refl refl refl refl refl refl)

pub returns-in-EnvironmentRole : goal.returns-in-EnvironmentRole
returns-in-EnvironmentRole c = name_added _ _ (Things thing.EnvironmentRole) _ c.put-in-EnvironmentRole.ensures _ (c.in-Things.is ∙ ap Things c.in-EnvironmentRole.is) (each_table _ refl refl refl refl refl refl refl refl refl)

pub returns-in-Unit : goal.returns-in-Unit
returns-in-Unit c = name_added _ _ (Things thing.Unit) _ c.put-in-Unit.ensures _ (c.in-Things.is ∙ ap Things c.in-Unit.is) (each_table _ refl refl refl refl refl refl refl refl refl)

pub returns-in-RolePairs : goal.returns-in-RolePairs
returns-in-RolePairs c = name_added _ _ RolePairs _ c.put-in-RolePairs.ensures _ c.in-RolePairs.is (each_table _ refl refl refl refl refl refl refl refl refl)
