use Rattle.std.proofs.Common.{◌≡◌, ◌<◌, ℕ, length, ap, subst, sym, ◌∙◌}
use Rattle.std.proofs.lemmas.List.{length-map}
use Rattle.std.proofs.lemmas.List.FromFn.{length-map-range_with_len}
use Rattle.grid_config_values.specs.declared.position.Position.{Position}
use Rattle.grid_config_values.specs.Spans.Spans.{AreGood, IsInTable}
use Rattle.grid_config.specs.Looks.{look_of}
use Rattle.grid_records_traits.specs.Rows.{evened, evened_row, text_at}
use Rattle.papergrid_picture.specs.Fitting.{FitsAnswer, first_too_wide}
use Rattle.papergrid_picture.specs.Frame.{Frame}
use Rattle.papergrid_picture.specs.Tables.{sizes_of, table_text}
use Rattle.papergrid_fits.specs.Tables.{IsFitsAnswer, sized_frame}
use Rattle.papergrid_fits.proofs.Estimated.{text_at-evened}
use Rattle.papergrid_fits.proofs.SameTexts.{answer-same, first_too_wide-same, table_text-same}
use Rattle.papergrid.proofs.laws.both_grids_append_the_same.Goals as goal

pub returns-clause-text : goal.returns-clause-text
returns-clause-text c = λ settings width height colors columns rows.
    let widths = sizes_of width columns in
    let heights = sizes_of height (length rows) in
    let wide : length widths ≡ columns = length-map-range_with_len width 0 columns in
    let same : (p : Position) → IsInTable (length heights) (length widths) p → text_at (evened columns rows) p ≡ text_at rows p =
    λ (p : Position). λ (inside : IsInTable (length heights) (length widths) p). text_at-evened columns rows p.row p.col (subst (λ n. p.col < n) wide inside.1) in
    ap (λ n. table_text (look_of settings) (evened columns rows) colors widths (sizes_of height n)) (length-map rows (evened_row columns))
    ∙ table_text-same settings widths heights (evened columns rows) rows same colors

pub returns-clause-answer : goal.returns-clause-answer
returns-clause-answer c = λ settings width height columns rows answer.
    let widths = sizes_of width columns in
    let heights = sizes_of height (length rows) in
    let wide : length widths ≡ columns = length-map-range_with_len width 0 columns in
    let same : (p : Position) → IsInTable (length heights) (length widths) p → text_at (evened columns rows) p ≡ text_at rows p =
    λ (p : Position). λ (inside : IsInTable (length heights) (length widths) p). text_at-evened columns rows p.row p.col (subst (λ n. p.col < n) wide inside.1) in
    let frame : Frame = sized_frame settings width height columns (length rows) in
    let first : first_too_wide frame (evened columns rows) ≡ first_too_wide frame rows = first_too_wide-same settings widths heights (evened columns rows) rows same in
    let Told : ℕ → Type 0 = λ n. FitsAnswer (sized_frame settings width height columns n) (evened columns rows) (AreGood settings.spans n columns) answer in
    let count : length (evened columns rows) ≡ length rows = length-map rows (evened_row columns) in
    let Good = AreGood settings.spans (length rows) columns in (
      λ (is : IsFitsAnswer settings width height columns (evened columns rows) answer). answer-same frame (evened columns rows) rows Good first answer (subst Told count is),
      λ (is : IsFitsAnswer settings width height columns rows answer). subst Told (sym count) (answer-same frame rows (evened columns rows) Good (sym first) answer is),
    )
