use Rattle.std.proofs.Common.{◌+◌, ◌-◌, ◌≤◌, length, ap, sym, subst, ◌∙◌}
use Rattle.std.specs.Prelude.{slice_range}
use Rattle.grid_records_traits.specs.SingleLines.{AreStarts, texts_at}
use Rattle.columns_table.specs.Cells.{cells_of}
use Rattle.columns_table.proofs.ResizedCells.{range-cells}
use Rattle.columns_table.proofs.Starts.{range-starts, range-texts, range-within}
use Rattle.columns_table.proofs.cell_row.CellRow.new.Goals as goal

pub invariant_of-result : goal.invariant_of-result
invariant_of-result c =
    let starts = c.args.starts.now in
    record {
      begun = subst (AreStarts c.args.text.now) (sym c.starts_part.ensures) (range-starts c.args.text.now starts c.args.start (c.args.end + 1) c.requires.begun);
      within =
          subst (λ found. length c.part.result.now ≤ length found - 1) (sym c.starts_part.ensures)
          (subst (λ found. length found ≤ length (slice_range starts c.args.start (c.args.end + 1)) - 1) (sym c.part.ensures)
          (range-within c.args.widths.now starts c.args.start c.args.end c.requires.within));
    }

pub returns : goal.returns
returns c =
    let text = c.args.text.now in
    let starts = c.args.starts.now in
    ap (λ widths. cells_of widths (texts_at text c.starts_part.result.now)) c.part.ensures
    ∙ ap (λ found. cells_of (slice_range c.args.widths.now c.args.start c.args.end) (texts_at text found)) c.starts_part.ensures
    ∙ ap (cells_of (slice_range c.args.widths.now c.args.start c.args.end)) (range-texts text starts c.args.start c.args.end)
    ∙ range-cells c.args.widths.now (texts_at text starts) c.args.start c.args.end
