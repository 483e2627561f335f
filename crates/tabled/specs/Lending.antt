-- The parts that a table lends: once the reference ends, the table has what it left there, and its
-- other parts as before.
use Rattle.std.specs.Borrow.{Lends, MutBor, Fml, RattleType}
use Rattle.grid_config.specs.Coloring.{Coloring}
use Rattle.grid_config.specs.contracts.colored.ColoredConfig.{the_row as config_row}
use Rattle.grid_records.specs.contracts.rows.records.vec_records.VecRecords.{the_row as records_row}
use Rattle.grid_records.specs.declared.rows.records.vec_records.VecRecords.{VecRecords}
use Rattle.tabled_size.specs.Dimension.Stored.{Stored}
use Rattle.tabled_size.specs.contracts.dimension.complete.CompleteDimension.{the_row as dimension_row}
use Rattle.tabled.specs.contracts.table.Table.{the_row}
use Rattle.tabled.specs.contracts.table_of.TableOf.{the_row as the_row_of}
use Rattle.tabled.specs.declared.table.Table.{Table}
use Rattle.tabled.specs.declared.table_of.TableOf.{TableOf}

-- a table over records
module _ (R : RattleType) (table : MutBor (TableOf R.Denot)) where
  abbrev pub LendsRecordsOf : MutBor R.Denot → Fml
  LendsRecordsOf lent = Lends (the_row_of R) R table lent (λ records. record table.now { records = records })

  abbrev pub LendsConfigOf : MutBor Coloring → Fml
  LendsConfigOf lent = Lends (the_row_of R) config_row table lent (λ config. record table.now { config = config })

  abbrev pub LendsDimensionOf : MutBor Stored → Fml
  LendsDimensionOf lent = Lends (the_row_of R) dimension_row table lent (λ dimension. record table.now { dimension = dimension })

module _ (T : RattleType) (table : MutBor (Table T.Denot)) where
  abbrev pub LendsRecords : MutBor (VecRecords T.Denot) → Fml
  LendsRecords lent = Lends (the_row T) (records_row T) table lent (λ records. record table.now { inner = record table.now.inner { records = records } })

  abbrev pub LendsConfig : MutBor Coloring → Fml
  LendsConfig lent = Lends (the_row T) config_row table lent (λ config. record table.now { inner = record table.now.inner { config = config } })

  abbrev pub LendsDimension : MutBor Stored → Fml
  LendsDimension lent = Lends (the_row T) dimension_row table lent (λ dimension. record table.now { inner = record table.now.inner { dimension = dimension } })
