-- The settings that a compact table lends: once the reference ends, the table has what it left there, and its other
-- parts as before.
use Rattle.std.specs.Borrow.{Lends, MutBor, Fml, RattleType}
use Rattle.grid_config.specs.contracts.compact.CompactConfig.{the_row as config_row}
use Rattle.grid_config.specs.declared.compact.CompactConfig.{CompactConfig}
use Rattle.tabled_compact.specs.contracts.table.CompactTable.{the_row}
use Rattle.tabled_compact.specs.declared.table.CompactTable.{CompactTable}

module _ (I D : RattleType) (table : MutBor (CompactTable I.Denot D.Denot)) where
  abbrev pub LendsConfig : MutBor CompactConfig → Fml
  LendsConfig lent = Lends (the_row I D) config_row table lent (λ config. record table.now { config = config })
