-- The row has the texts of its places.
use Rattle.std.proofs.Common.{◌∙◌, All, List, ap, map, subst, sym}
use Rattle.basinmug_cells.specs.OwnTexts.{own_texts}
use Rattle.basinmug_cells.specs.Places.{IsPlace, place_text}
use Rattle.basinmug_cells.specs.declared.place.Place.{Place}
use Rattle.basinmug_cells.proofs.Views.{row-keeps, row-map}
use Rattle.basinmug_cells.proofs.rows_view.RowsViewCellRows.row.Goals as goal

pub invariant_of-result : goal.invariant_of-result
invariant_of-result c =
    let rows = c.args.self in
    let P = IsPlace rows.text.now (own_texts rows.own.now) in
    record { are = subst (λ (places : List Place). All P places) (sym c.row_places.ensures) (row-keeps P rows.start rows.ends.now rows.places.now c.args.row rows.are) }

pub returns : goal.returns
returns c =
    let rows = c.args.self in
    let text = place_text rows.text.now (own_texts rows.own.now) in
    ap (map text) c.row_places.ensures ∙ row-map text rows.start rows.ends.now rows.places.now c.args.row
