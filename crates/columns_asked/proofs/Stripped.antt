-- What a table is follows from its texts without their sequences.
use Rattle.std.proofs.Common.{◌≡◌, ◌+◌, ℕ, List, map, ap, sym, ◌∙◌}
use Rattle.std.specs.Prelude.{chars, nat_lt, ◌&&◌}
use Rattle.std.specs.List.{AllByRecursion, find}
use Rattle.std.proofs.lemmas.Simd.{map-map}
use Rattle.grid_config.specs.Compact.{Compact}
use Rattle.grid_config.specs.Looks.{compact_look}
use Rattle.grid_config_values.specs.Spans.Owners.{owner}
use Rattle.grid_config_values.specs.Entities.{table_positions}
use Rattle.grid_config_values.specs.Order.{same_place}
use Rattle.grid_config_values.specs.declared.position.Position.{Position}
use Rattle.grid_records_measure.specs.TextLines.{text_width}
use Rattle.grid_records_estimate.specs.Rows.{text_at}
use Rattle.papergrid_picture.specs.Fitting.{InRange, first_too_wide, need}
use Rattle.papergrid_picture.specs.Frame.{Frame, block_width, column_count, frame_of, row_count}
use Rattle.papergrid_picture.specs.Shown.{AreWholeTexts, IsWholeText, character_of, cell_characters, in_plain, stripped_texts, styled_texts}
use Rattle.papergrid_picture.proofs.Shown.{characters-styled, map-same, styled_of}
use Rattle.columns_asked.specs.WidthLimits.{WidthLimit}
use Rattle.columns_asked.specs.DrawnTables.{AskedInRange, asked_frame, asked_widths, frame_under, heights_of, resized_cells, resized_rows, texts_in, too_wide}
use Rattle.tabled_size_wrap.proofs.CellsLemmas.Characters.{same}
use Rattle.columns_asked.proofs.Characters.{kept-characters, texts-characters}
use Rattle.papergrid_picture.proofs.Stripped.{stripped}
use Rattle.tabled_size_wrap.proofs.CellsLemmas.CellStripping.{stripped-none, stripped-width, text-map, texts-twice, texts-whole}
use Rattle.columns_asked.proofs.Sizes.{frame-stripped, heights-stripped}
use Rattle.columns_asked.proofs.Tables.{asked_widths-stripped, kept-styled, kept-whole, texts-in}

-- ---- the characters that texts show

pub characters-texts : (texts : List (List (List ℕ))) → AreWholeTexts texts → cell_characters (styled_texts texts) ≡ map (map chars) (stripped_texts texts)
characters-texts texts all =
    map-map (map (map character_of)) (map styled_of) texts
    ∙ map-same (AllByRecursion IsWholeText) (λ row. map (map character_of) (map styled_of row)) (λ row. map chars (map stripped row))
    (λ row whole. map-map (map character_of) styled_of row
    ∙ map-same IsWholeText (λ text. map character_of (styled_of text)) (λ text. chars (stripped text)) (λ text is. characters-styled text is.utf8) row whole
    ∙ sym (map-map chars stripped row))
    texts all
    ∙ sym (map-map (map chars) (map stripped) texts)

module _ (style : Compact) (asked : WidthLimit) where
  -- the texts that are kept show the resized characters
  pub kept-shown : (texts : List (List (List ℕ))) → AreWholeTexts texts → stripped_texts (resized_rows style asked texts) ≡ texts_in same same (resized_cells same same style asked (map (map chars) (stripped_texts texts)))
  kept-shown texts all =
      sym (texts-in (resized_rows style asked texts) (kept-whole style asked texts all))
      ∙ ap (texts_in character_of in_plain) (kept-styled style asked texts all)
      ∙ sym (texts-characters style asked (resized_cells character_of in_plain style asked (styled_texts texts)))
      ∙ ap (texts_in same same) (kept-characters style asked (styled_texts texts) ∙ ap (resized_cells same same style asked) (characters-texts texts all))

  module _ (texts : List (List (List ℕ))) (all : AreWholeTexts texts) where
    -- they are those of the stripped texts
    pub kept-stripped : stripped_texts (resized_rows style asked (stripped_texts texts)) ≡ stripped_texts (resized_rows style asked texts)
    kept-stripped =
        kept-shown (stripped_texts texts) (texts-whole texts all)
        ∙ ap (λ (found : List (List (List ℕ))). texts_in same same (resized_cells same same style asked (map (map chars) found))) (texts-twice texts)
        ∙ sym (kept-shown texts all)

    pub heights-asked : heights_of style (resized_rows style asked (stripped_texts texts)) ≡ heights_of style (resized_rows style asked texts)
    heights-asked =
        sym (heights-stripped style (resized_rows style asked (stripped_texts texts))) ∙ ap (heights_of style) kept-stripped ∙ heights-stripped style (resized_rows style asked texts)

    pub frame-asked : asked_frame style asked (stripped_texts texts) ≡ asked_frame style asked texts
    frame-asked =
        ap (λ (widths : List ℕ). frame_of (compact_look style) widths (heights_of style (resized_rows style asked (stripped_texts texts)))) (asked_widths-stripped style asked texts)
        ∙ ap (frame_of (compact_look style) (asked_widths style asked texts)) heights-asked

    pub fits-stripped : AskedInRange style asked (stripped_texts texts) ≡ AskedInRange style asked texts
    unfolding AskedInRange
    fits-stripped =
        ap (λ (frame : Frame). InRange frame × InRange (asked_frame style asked (stripped_texts texts))) (frame-stripped style texts)
        ∙ ap (λ (frame : Frame). InRange (frame_under style texts) × InRange frame) frame-asked

-- ---- the first cell that is too wide

module _ (frame : Frame) (rows : List (List (List ℕ))) where
  need-stripped : (cell : Position) → need frame.look (stripped_texts rows) cell ≡ need frame.look rows cell
  need-stripped cell =
      let padding = frame.look.padding cell in
      ap (λ (n : ℕ). n + padding.left.size + padding.right.size) (ap text_width (text-map stripped stripped-none rows cell) ∙ stripped-width (text_at rows cell))

  first-stripped : first_too_wide frame (stripped_texts rows) ≡ first_too_wide frame rows
  first-stripped = λ k. find (λ cell. same_place (owner frame.look.extent cell) cell && nat_lt (block_width frame cell) (need-stripped cell k)) (table_positions (row_count frame) (column_count frame))

module _ (style : Compact) (asked : WidthLimit) (texts : List (List (List ℕ))) (all : AreWholeTexts texts) where
  pub too_wide-stripped : too_wide style asked (stripped_texts texts) ≡ too_wide style asked texts
  unfolding too_wide
  too_wide-stripped =
      let kept = resized_rows style asked texts in
      let others = resized_rows style asked (stripped_texts texts) in
      ap (λ (frame : Frame). first_too_wide frame others) (frame-asked style asked texts all)
      ∙ sym (first-stripped (asked_frame style asked texts) others)
      ∙ ap (first_too_wide (asked_frame style asked texts)) (kept-stripped style asked texts all)
      ∙ first-stripped (asked_frame style asked texts) kept
