use Rattle.papergrid_picture.proofs.ColorsLemmas.Pieces.{line-pieces}
use Rattle.papergrid_picture.proofs.colors.colored_lines_by_parts.Goals as goal

pub returns : goal.returns
returns c = λ look rows colors widths heights y bare. line-pieces look rows colors widths heights bare y
