-- A text that fits, and one that does not.
use Rattle.std.proofs.Common.{◌∙◌, ap, List, ℕ, Some}
use Rattle.tabled_width_texts.proofs.Measuring.{wide_changes, wide_stays}
use Rattle.basinmug_cells.specs.Fields.{field_text}
use Rattle.basinmug_run.specs.Picture.Fitting.{fitted_text}
use Rattle.basinmug_run.proofs.picture.fitting.fitted_if_wider.Goals as goal

pub returns-then-width-room : goal.returns-then-width-room
returns-then-width-room c =
    let text = field_text c.args.cell.now in
    wide_stays text c.width.result c.args.room c.width.ensures (fitted_text c.args.truncate c.args.room text) c.if-width-room.true

pub returns : goal.returns
returns c =
    let text = field_text c.args.cell.now in
    ap (λ (it : List ℕ). Some it) (c.shrink_to_fit.ensures.bytes ∙ c.in_ok-text.ensures ∙ ap (fitted_text c.args.truncate c.args.room) c.text.ensures)
    ∙ wide_changes text c.width.result c.args.room c.width.ensures (fitted_text c.args.truncate c.args.room text) c.if-width-room.false
