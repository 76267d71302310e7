-- How many there can be of each, and how large a house number can be.
use Rattle.std.specs.Prelude.{ℕ}
use Rattle.tables.specs.declared.table.Table.{Table}
use Rattle.tables.specs.declared.table.Table.TheVariants.{Things, Permissions, RolePairs, Entries}
use Rattle.tables.specs.declared.table.Thing.{Thing}
use Rattle.tables.specs.declared.table.Thing.TheVariants.{User, Role, Device, Operation, DeviceRole, Condition, EnvironmentRole}

abbrev pub thing_limit : Thing → ℕ
thing_limit User = 32
thing_limit Role = 32
thing_limit Device = 32
thing_limit Operation = 32
thing_limit DeviceRole = 32
thing_limit Condition = 32
thing_limit EnvironmentRole = 32
thing_limit Thing.Unit = 16

abbrev pub table_limit : Table → ℕ
table_limit (Things t) = thing_limit t
table_limit Permissions = 64
table_limit RolePairs = 64
table_limit Entries = 64

-- the largest house number
abbrev pub number_limit : ℕ
number_limit = 999999
