-- There are as many rows as ends.
use Rattle.std.proofs.Common.{◌∙◌, ap, length, map, sym}
use Rattle.basinmug_cells.specs.Held.{Held}
use Rattle.basinmug_cells.specs.OwnTexts.{own_texts}
use Rattle.basinmug_cells.specs.Places.{place_text}
use Rattle.basinmug_cells.proofs.Ends.{count-rows}
use Rattle.basinmug_cells.proofs.rows.Rows.len.Goals as goal

pub returns : goal.returns
returns c =
    let rows = c.self.inside in
    c.len.ensures ∙ rows.ends.ok.0 ∙ sym (count-rows 0 rows.ends.items (map (place_text rows.text.now (own_texts rows.own.items)) rows.places.items))
    ∙ ap (λ (held : Held). length held.rows) c.self.view_is
