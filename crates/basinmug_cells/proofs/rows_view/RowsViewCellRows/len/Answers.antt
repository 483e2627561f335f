-- There are as many rows as ends.
use Rattle.std.proofs.Common.{map, sym}
use Rattle.basinmug_cells.specs.OwnTexts.{own_texts}
use Rattle.basinmug_cells.specs.Places.{place_text}
use Rattle.basinmug_cells.proofs.Ends.{count-rows}
use Rattle.basinmug_cells.proofs.rows_view.RowsViewCellRows.len.Goals as goal

pub returns : goal.returns
returns c =
    let rows = c.args.self in
    sym (count-rows rows.start rows.ends.now (map (place_text rows.text.now (own_texts rows.own.now)) rows.places.now))
