use Rattle.std.proofs.Common.{ap, ◌∙◌}
use Rattle.papergrid_picture.specs.Tables.{sizes_of}
use Rattle.tabled_size.specs.Dimension.Sizes.{given_size}
use Rattle.tabled_size.specs.Dimension.Stored.{stored_sizes}
use Rattle.tabled.specs.Printing.{drawn_sizes}
use Rattle.tabled.specs.Tables.{table_state}
use Rattle.tabled.proofs.table_of.TableOf.heights.Goals as goal

pub returns-clause-heights : goal.returns-clause-heights
returns-clause-heights g c =
    c.in_ok-heights.ensures
    ∙ ap (λ kept. sizes_of (given_size (stored_sizes kept)) c.count_rows.result) c.in_ok-sizes.ensures.heights
    ∙ ap (sizes_of (given_size (stored_sizes (drawn_sizes (table_state g.R.RecordTexts.rows c.args.self.now)).heights))) c.count_rows.ensures
