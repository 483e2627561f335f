-- All rows from the first record on.
use Rattle.std.proofs.Common.{◌≡◌, ◌∙◌, ◌-◌, ap, ap₂, ℕ, List, drop, length, take}
use Rattle.std.specs.Prelude.{slice_range}
use Rattle.std.proofs.lemmas.List.{take_rest}
use Rattle.basinmug_cells.specs.Views.{view_rows}
use Rattle.basinmug_run.specs.Picture.Rows.{header_rows}
use Rattle.basinmug_run.proofs.picture.rows.records_of.Goals as goal

pub returns : goal.returns
returns c =
    let rows = view_rows c.args.rows in
    c.between.ensures ∙ ap₂ (λ (start end : ℕ). slice_range rows start end) c.header_rows.ensures c.len.ensures ∙ take_rest rows (header_rows c.args.header)
