use Rattle.papergrid_fits.proofs.TotalSizes.{columns-total, estimated-columns, estimated-lines, lines-total}
use Rattle.papergrid_fits.proofs.laws.totals.Goals as goal

pub returns : goal.returns
returns c = record {
  lines = lines-total;
  columns = columns-total;
  estimated_lines = λ look sizing columns rows borders margin. estimated-lines look sizing borders margin columns rows;
  estimated_columns = λ look sizing columns rows borders margin. estimated-columns look sizing borders margin columns rows;
}
