-- The texts of a part are a part of the texts.
use Rattle.std.proofs.Common.{◌∙◌, ap, map, sym}
use Rattle.std.specs.Vec.{vec_items}
use Rattle.grid_records_traits.specs.Sources.{texts_of_rows}
use Rattle.basinmug_cells.proofs.Parts.{part-map}
use Rattle.basinmug_cells.proofs.cell_rows.RefSliceVecCellRows.between.Goals as goal

pub returns : goal.returns
returns g c =
    ap (texts_of_rows g.C.Cell.text) c.part.ensures ∙ sym (part-map (λ row. map g.C.Cell.text (vec_items row)) c.args.start c.args.end c.args.self.now)
