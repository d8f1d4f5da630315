-- How what the code keeps stands for a lock table.
use Rattle.std.specs.Prelude.{◌≡◌}
use Rattle.lock_table.specs.declared.tables.TheConstants.{MAX_WAITING}
use Rattle.lock_table.specs.Table.{Table, IsLockTable}
use Rattle.lock_table.specs.declared.tables.LockTable.TheInside.{Inside}

abbrev pub table_of : Inside → Table
table_of t = record { held = t.held.items; line = t.line.items }

-- the line has its room, and the table is one that the calls make
pub record IsInOrder (t : Inside) : Type 0 where
  pub room : t.line.capacity ≡ MAX_WAITING
  pub table : IsLockTable (table_of t)
