use Rattle.std.proofs.Common.{ap, arith}
use Rattle.grid_records_traits.specs.Rows.{text_at}
use Rattle.papergrid_fits.proofs.TextWidths.{text_width-is}
use Rattle.papergrid_fits.proofs.room.need.Goals as goal

pub returns : goal.returns
returns g c =
    let text = text_at (g.R.RecordTexts.rows c.args.records.now) c.args.pos in
    omega (arith, text_width-is text c.get_width.result c.get_width.ensures, ap (λ p. p.left.size) c.get_padding-padding.ensures, ap (λ p. p.right.size) c.get_padding-padding.ensures)
