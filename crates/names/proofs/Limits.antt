-- No table has more names than it can have.
use Rattle.std.proofs.Common.{ℕ, ◌≤◌, length, arith}
use Rattle.std.proofs.lemmas.List.{length-map}
use Rattle.index_set.proofs.Stored.{items_length}
use Rattle.index_set.specs.Items.{items_of}
use Rattle.kinds.specs.declared.column.NameTable.{NameTable}
use Rattle.tables.specs.Limits.{table_limit}
use Rattle.values.specs.Names.{spelling}
use Rattle.names.specs.Spellings.{spellings}
use Rattle.names.specs.Spelt.{spelt}
use Rattle.names.specs.Tables.{table_of}
use Rattle.names.specs.declared.names.Names.{Names}
use Rattle.names.specs.declared.register.Register.{Register}
use Rattle.names.proofs.Registers.{each_table}

register_within : {limit : ℕ} (r : Register limit) → length (spelt (items_of r.names)) ≤ limit
register_within r = omega (arith, length-map (items_of r.names) spelling, items_length r.names, r.names.within, r.limit)

pub names_within : (n : Names) (t : NameTable) → length (spellings n t) ≤ table_limit (table_of t)
names_within n =
    each_table (λ t. length (spellings n t) ≤ table_limit (table_of t)) (register_within n.users) (register_within n.roles) (register_within n.devices) (register_within n.operations)
    (register_within n.device_roles) (register_within n.conditions) (register_within n.environment_roles) (register_within n.units) (register_within n.role_pairs)
