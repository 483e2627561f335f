use Rattle.std.proofs.Common.{Ok}
use Rattle.std.proofs.lemmas.Result.{err_from_is_err_and}
use Rattle.grid_config.specs.Looks.{look_of}
use Rattle.grid_records.specs.RecordRows.Sources.{columns_of}
use Rattle.tabled_steps.specs.Outcomes.{◌≫=◌, sized}
use Rattle.tabled_width.specs.WholeTables.Rooms.{column_widths}
use Rattle.tabled_width.specs.WholeTables.Tables.{sizes_with}
use Rattle.tabled_width.specs.WholeTables.Widths.{width_with_columns}
use Rattle.tabled_width.proofs.tables.table_sizes.TableSizes.estimate.Goals as goal

pub returns-in_err-widths-clause-table_sizes : goal.returns-in_err-widths-clause-table_sizes
returns-in_err-widths-clause-table_sizes g c =
    let columns = columns_of c.args.records.now.rows.items in
    let p = err_from_is_err_and c.from_residual.result c.from_residual.ensures.1 in
    rw (p.1, p.2) (c.in_err-widths.ensures.refused (λ widths heights. sized (width_with_columns (look_of c.args.cfg.now) (column_widths columns widths)) ≫= λ whole. Ok (sizes_with widths heights whole)))
