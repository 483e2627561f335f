-- A table whose sizes are listed, one for each column and row.
use Rattle.std.proofs.Common.{◌≡◌, ◌≢◌, ◌==◌, ◌∙◌, ℕ, Bool, false, List, [], ◌∷◌, ◌++◌, Option, ap, arith, if◌then◌else◌, length, slice_index, subst, sym}
use Rattle.std.proofs.lemmas.Bool.Decides.{nat_tests}
use Rattle.grid_config.specs.Colors.{Color}
use Rattle.grid_config.specs.Looks.{look_of}
use Rattle.grid_config.specs.Settings.{Settings}
use Rattle.grid_config_values.specs.Spans.Spans.{AreGood}
use Rattle.grid_config_values.specs.declared.position.Position.{Position}
use Rattle.papergrid_fits.specs.Grids.{grid_text}
use Rattle.papergrid_fits.specs.Tables.{CanBeDrawn, sized_frame}
use Rattle.papergrid_picture.specs.Fitting.{InRange}
use Rattle.papergrid_picture.specs.Frame.{Frame, frame_of, line_count}
use Rattle.papergrid_picture.specs.Tables.{sizes_of, table_text}
use Rattle.papergrid_picture.proofs.ByNumber.{by_number}
use Rattle.grid_records_measure.specs.TextLines.{line_feed}
use Rattle.papergrid_print.specs.Ended.{ended_text, line_end}
use Rattle.columns_table.specs.Listed.{AreSizesOf, text_in}
use Rattle.columns_table.specs.declared.sizes.Sizes.{Sizes}

module _ (settings : Settings) (columns : ℕ) (rows : List (List (List ℕ))) (sizes : Sizes) (widths heights : List ℕ) (wide : widths ≡ sizes.widths.items) (high : heights ≡ sizes.heights.items) (listed : AreSizesOf sizes columns (length rows)) where
  abbrev width : ℕ → ℕ
  width = slice_index sizes.widths.items

  abbrev height : ℕ → ℕ
  height = slice_index sizes.heights.items

  widths-are : sizes_of width columns ≡ widths
  widths-are = by_number sizes.widths.items columns listed.0 ∙ sym wide

  heights-are : sizes_of height (length rows) ≡ heights
  heights-are = by_number sizes.heights.items (length rows) listed.1 ∙ sym high

  pub listed-text : (colors : Position → Option Color) → table_text (look_of settings) rows colors widths heights ≡ grid_text (look_of settings) width height colors columns rows
  listed-text colors =
      sym (ap (λ ws. table_text (look_of settings) rows colors ws (sizes_of height (length rows))) widths-are ∙ ap (λ hs. table_text (look_of settings) rows colors widths hs) heights-are)

  -- which is ended where it has lines
  pub listed-ended : (colors : Position → Option Color) → sizes.whole_height ≢ 0 → sizes.whole_height ≡ line_count (frame_of (look_of settings) sizes.widths.items sizes.heights.items)
      → ended_text (look_of settings) rows colors widths heights ≡ text_in sizes settings colors columns rows
  listed-ended colors some lines =
      let whole : ℕ = line_count (frame_of (look_of settings) widths heights) in
      let grid : List ℕ = grid_text (look_of settings) width height colors columns rows in
      let same : whole ≡ sizes.whole_height = sym (lines ∙ ap (λ ws. line_count (frame_of (look_of settings) ws sizes.heights.items)) (sym wide) ∙ ap (λ hs. line_count (frame_of (look_of settings) widths hs)) (sym high)) in
      let there : (sizes.whole_height == 0) ≡ false = grind (arith, nat_tests, some) in
      ap (λ n. table_text (look_of settings) rows colors widths heights ++ line_end n) same
      ∙ (ap (λ (b : Bool). table_text (look_of settings) rows colors widths heights ++ (if b then [] else line_feed ∷ [])) there
      ∙ (ap (λ (text : List ℕ). text ++ line_feed ∷ []) (listed-text colors)
      ∙ sym (ap (λ (b : Bool). if b then [] else grid ++ line_feed ∷ []) there)))

  pub listed-good : CanBeDrawn settings width height columns rows → AreGood settings.spans (length heights) (length widths)
  listed-good fits =
      let many : length rows ≡ length heights = sym listed.1 ∙ ap (λ (xs : List ℕ). length xs) (sym high) in
      let across : columns ≡ length widths = sym listed.0 ∙ ap (λ (xs : List ℕ). length xs) (sym wide) in
      subst (AreGood settings.spans (length heights)) across (subst (λ (n : ℕ). AreGood settings.spans n columns) many fits.good)

  pub listed-range : CanBeDrawn settings width height columns rows → InRange (frame_of (look_of settings) widths heights)
  listed-range fits =
      let same : sized_frame settings width height columns (length rows) ≡ frame_of (look_of settings) widths heights =
      ap (λ ws. frame_of (look_of settings) ws (sizes_of height (length rows))) widths-are ∙ ap (frame_of (look_of settings) widths) heights-are in
      subst (λ (frame : Frame). InRange frame) same fits.range
