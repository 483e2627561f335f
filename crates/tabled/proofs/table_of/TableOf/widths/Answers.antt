use Rattle.std.proofs.Common.{ap, ◌∙◌}
use Rattle.papergrid_picture.specs.Tables.{sizes_of}
use Rattle.tabled_size.specs.Dimension.Sizes.{given_size}
use Rattle.tabled_size.specs.Dimension.Stored.{stored_sizes}
use Rattle.tabled.specs.Printing.{drawn_sizes}
use Rattle.tabled.specs.Tables.{table_state}
use Rattle.tabled.proofs.table_of.TableOf.widths.Goals as goal

pub returns-clause-widths : goal.returns-clause-widths
returns-clause-widths g c =
    c.in_ok-widths.ensures
    ∙ ap (λ kept. sizes_of (given_size (stored_sizes kept)) c.count_columns.result) c.in_ok-sizes.ensures.widths
    ∙ ap (sizes_of (given_size (stored_sizes (drawn_sizes (table_state g.R.RecordTexts.rows c.args.self.now)).widths))) c.count_columns.ensures
