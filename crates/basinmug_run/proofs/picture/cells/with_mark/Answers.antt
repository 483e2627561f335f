-- A row of ellipses in its place.
use Rattle.std.proofs.Common.{◌≡◌, ◌∙◌, ◌+◌, ap, arith, ℕ, length, min, replicate}
use Rattle.std.specs.Prelude.{insert}
use Rattle.std.proofs.lemmas.Result.{IfOk-weaker}
use Rattle.tabled_text.specs.Rows.{longest}
use Rattle.basinmug_cells.specs.Held.{Held}
use Rattle.basinmug_columns.specs.Fitting.Fitting.{ellipsis}
use Rattle.basinmug_run.specs.Picture.Rows.{header_rows, mark_row}
use Rattle.basinmug_run.proofs.PictureLemmas.MarkedRows.{insert-min}
use Rattle.basinmug_run.proofs.picture.cells.with_mark.Goals as goal

pub with_row-requires : goal.with_row-requires
with_row-requires c = omega (arith, c.place_in-place.ensures, c.len.ensures)

pub returns : goal.returns
returns c =
    let rows = c.args.rows.rows in
    let wanted = c.args.first + header_rows c.args.has_header in
    let wide : c.longest-columns.result ≡ longest rows = c.longest-columns.ensures ∙ ap longest c.view.ensures in
    let place : c.place_in-place.result ≡ min wanted (length rows) = c.place_in-place.ensures ∙ ap (min wanted) c.len.ensures in
    IfOk-weaker c.with_row.result _ _
    (λ more is.
    ap (λ (held : Held). held.rows) is
    ∙ ap (λ (n : ℕ). insert rows n (replicate c.longest-columns.result ellipsis)) place
    ∙ ap (λ (n : ℕ). insert rows (min wanted (length rows)) (replicate n ellipsis)) wide
    ∙ insert-min rows wanted (mark_row rows)) c.with_row.ensures
