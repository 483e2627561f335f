-- The widths are a list, whose sizes are read by their number.
use Rattle.std.proofs.Common.{List, ap, slice_index, ◌∙◌, ℕ}
use Rattle.tabled_size.specs.Dimension.Sizes.{given_size}
use Rattle.tabled_size.specs.Dimension.Values.{const_sizes}
use Rattle.tabled_size.specs.declared.dimension.const_size.ConstSize.{ConstSize}
use Rattle.tabled_compact.specs.Tables.{Compacted, begun}
use Rattle.tabled_compact.proofs.columns.CompactTableConstDimensionFrom.from.Goals as goal

pub returns : goal.returns
returns g c =
    let rows = g.I.RecordTexts.rows c.args.rows in
    c.columns.ensures
    ∙ ap (λ (table : Compacted). record table { columns = g.row.COLUMNS }) (
    c.with_dimension.ensures
    ∙ ap (λ (sizes : ConstSize _ × ConstSize _). begun rows (given_size (const_sizes sizes.0))) c.new-dimension.ensures
    ∙ ap (λ (widths : List ℕ). begun rows (slice_index widths)) c.spaced_widths.ensures)
