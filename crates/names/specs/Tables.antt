-- The tables that have names.
use Rattle.std.specs.Prelude.{ℕ, Bool, ◌==◌}
use Rattle.kinds.specs.declared.column.NameTable.{NameTable}
use Rattle.kinds.specs.declared.column.NameTable.TheVariants as named
use Rattle.tables.specs.Indices.{thing_index}
use Rattle.tables.specs.declared.table.Table.{Table}
use Rattle.tables.specs.declared.table.Table.TheVariants as listed

-- the list of a draft that the names are of
abbrev pub table_of : NameTable → Table
table_of (named.Things t) = listed.Things t
table_of named.RolePairs = listed.RolePairs

-- the tables counted through: the things in their order, then the role pairs
abbrev pub table_index : NameTable → ℕ
table_index (named.Things t) = thing_index t
table_index named.RolePairs = 8

-- whether two tables are the same
abbrev pub same_table : NameTable → NameTable → Bool
same_table t u = table_index t == table_index u
