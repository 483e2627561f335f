-- The text of a table of texts without ESC is its characters.
use Rattle.std.proofs.Common.{◌≡◌, ◌==◌, ◌+◌, ℕ, Bool, true, false, List, [], ◌∷◌, ◌++◌, map, refl, ap, sym, subst, ◌∙◌, if◌then◌else◌}
use Rattle.std.specs.Prelude.{chars, encode_utf8_all, None}
use Rattle.std.specs.List.{AllByRecursion}
use Rattle.std.proofs.lemmas.Str.{encodes-chars}
use Rattle.ansi_scan.specs.Pieces.{pieces}
use Rattle.ansi_scan.proofs.Existence.{ArePiecesOf-pieces}
use Rattle.ansi_str_search.proofs.TextLemmas.Stripping.{strip-without_escape}
use Rattle.ansi_str_search.proofs.TextLemmas.Utf8Pieces.{IsUtf8-shown_text}
use Rattle.grid_config.specs.Compact.{Compact}
use Rattle.grid_config.specs.Looks.{compact_look}
use Rattle.grid_records_measure.specs.TextLines.{line_feed}
use Rattle.papergrid_picture.specs.Frame.{Frame, line_count}
use Rattle.papergrid_picture.specs.Shown.{AreTextsWithoutEscape, AreWholeTexts, IsBare, IsTextWithoutEscape, IsWholeText, character_of, stripped_texts, styled_texts}
use Rattle.papergrid_picture.specs.Tables.{table_text}
use Rattle.papergrid_picture.proofs.Shown.{characters-styled}
use Rattle.papergrid_picture.proofs.Stripped.{stripped, stripped-plain, table-leaves}
use Rattle.columns_asked.specs.WidthLimits.{WidthLimit}
use Rattle.columns_asked.specs.DrawnTables.{asked_characters, asked_frame, asked_text, asked_widths, by_column, ended, heights_of, resized_rows, narrowed, resize_in}
use Rattle.tabled_size_wrap.specs.Cells.Resizing.{Resize, resized_text}
use Rattle.tabled_size_wrap.proofs.CellsLemmas.TextsWithoutEscape.{IsFree, free-both, free-from, free-none, plain-whole, resized-plain}
use Rattle.columns_asked.proofs.Characters.{picture-alone}
use Rattle.columns_asked.proofs.Stripped.{characters-texts}
use Rattle.columns_asked.proofs.Tables.{text-shows_picture}

-- ---- a table

row-whole : (row : List (List ℕ)) → AllByRecursion IsTextWithoutEscape row → AllByRecursion IsWholeText row
row-whole [] all = tt
row-whole (text ∷ row) all = (plain-whole text all.0, row-whole row all.1)

pub plain-texts_whole : (texts : List (List (List ℕ))) → AreTextsWithoutEscape texts → AreWholeTexts texts
plain-texts_whole [] all = tt
plain-texts_whole (row ∷ texts) all = (row-whole row all.0, plain-texts_whole texts all.1)

row-plain : (resize : ℕ → Resize) (column : ℕ) (row : List (List ℕ)) → AllByRecursion IsTextWithoutEscape row → AllByRecursion IsTextWithoutEscape (by_column (λ j. resized_text (resize j)) column row)
row-plain resize column [] all = tt
row-plain resize column (text ∷ row) all = (resized-plain (resize column) text all.0, row-plain resize (column + 1) row all.1)

rows-plain : (resize : ℕ → Resize) (rows : List (List (List ℕ))) → AreTextsWithoutEscape rows → AreTextsWithoutEscape (map (by_column (λ j. resized_text (resize j)) 0) rows)
rows-plain resize [] all = tt
rows-plain resize (row ∷ rows) all = (row-plain resize 0 row all.0, rows-plain resize rows all.1)

-- stripped plain texts are the texts
stripped-row : (row : List (List ℕ)) → AllByRecursion IsTextWithoutEscape row → map stripped row ≡ row
stripped-row [] all = refl
stripped-row (text ∷ row) all =
    ap (λ (first : List ℕ). first ∷ map stripped row) (strip-without_escape text (pieces text) (ArePiecesOf-pieces text) all.0.no_escape) ∙ ap (λ (rest : List (List ℕ)). text ∷ rest) (stripped-row row all.1)

pub stripped-same : (rows : List (List (List ℕ))) → AreTextsWithoutEscape rows → stripped_texts rows ≡ rows
stripped-same [] all = refl
stripped-same (row ∷ rows) all = ap (λ (first : List (List ℕ)). first ∷ stripped_texts rows) (stripped-row row all.0) ∙ ap (λ (rest : List (List (List ℕ))). row ∷ rest) (stripped-same rows all.1)

module _ (style : Compact) (asked : WidthLimit) (bare : IsBare (compact_look style)) where
  pub kept-plain : (texts : List (List (List ℕ))) → AreTextsWithoutEscape texts → AreTextsWithoutEscape (resized_rows style asked texts)
  unfolding resized_rows
  kept-plain texts all = rows-plain (resize_in style asked (narrowed style asked texts)) texts all

  free-ended : (frame : Frame) (bytes : List ℕ) → IsFree bytes → IsFree (ended line_feed frame bytes)
  free-ended frame bytes free = step (line_count frame == 0) where
    step : (b : Bool) → IsFree (if b then [] else bytes ++ line_feed ∷ [])
    step true = tt
    step false = free-both bytes (line_feed ∷ []) free (refl, tt)

  free-text : (texts : List (List (List ℕ))) → AreTextsWithoutEscape texts → IsFree (asked_text style asked texts)
  unfolding asked_text
  free-text texts all =
      let kept = resized_rows style asked texts in
      let widths = asked_widths style asked texts in
      let heights = heights_of style kept in
      let out = table_text (compact_look style) kept (λ _. None) widths heights in
      let plain = kept-plain texts all in
      let same : stripped out ≡ out =
      (table-leaves (compact_look style) kept widths heights bare (plain-texts_whole kept plain)).left
      ∙ ap (λ (rows : List (List (List ℕ))). table_text (compact_look style) rows (λ _. None) widths heights) (stripped-same kept plain) in
      free-ended (asked_frame style asked texts) out (subst IsFree same (free-from (stripped out) (stripped-plain out)))

  -- what the text of a table shows are the characters of its picture
  pub text-characters : (texts : List (List (List ℕ))) → AreWholeTexts texts → stripped (asked_text style asked texts) ≡ encode_utf8_all (asked_characters style asked (map (map chars) (stripped_texts texts)))
  text-characters texts all =
      let out = asked_text style asked texts in
      let shows = text-shows_picture style asked texts bare all in
      sym (encodes-chars (stripped out) (IsUtf8-shown_text out shows.utf8))
      ∙ ap encode_utf8_all
      (sym (characters-styled out shows.utf8) ∙ ap (map character_of) shows.shown ∙ picture-alone style asked (styled_texts texts) ∙ ap (asked_characters style asked) (characters-texts texts all))

  -- of plain texts it is these characters
  pub text-plain : (texts : List (List (List ℕ))) → AreTextsWithoutEscape texts → asked_text style asked texts ≡ encode_utf8_all (asked_characters style asked (map (map chars) texts))
  text-plain texts all =
      let out = asked_text style asked texts in
      sym (strip-without_escape out (pieces out) (ArePiecesOf-pieces out) (free-none out (free-text texts all)))
      ∙ text-characters texts (plain-texts_whole texts all)
      ∙ ap (λ (rows : List (List (List ℕ))). encode_utf8_all (asked_characters style asked (map (map chars) rows))) (stripped-same texts all)

  stripped-plain_row : (row : List (List ℕ)) → AllByRecursion IsWholeText row → AllByRecursion IsTextWithoutEscape (map stripped row)
  stripped-plain_row [] all = tt
  stripped-plain_row (text ∷ row) all = (record { utf8 = IsUtf8-shown_text text all.0.utf8; no_escape = stripped-plain text }, stripped-plain_row row all.1)

  stripped-plain_texts : (texts : List (List (List ℕ))) → AreWholeTexts texts → AreTextsWithoutEscape (stripped_texts texts)
  stripped-plain_texts [] all = tt
  stripped-plain_texts (row ∷ texts) all = (stripped-plain_row row all.0, stripped-plain_texts texts all.1)

  -- without its sequences it is the text of the table of the stripped texts
  pub text-stripped : (texts : List (List (List ℕ))) → AreWholeTexts texts → stripped (asked_text style asked texts) ≡ asked_text style asked (stripped_texts texts)
  text-stripped texts all = text-characters texts all ∙ sym (text-plain (stripped_texts texts) (stripped-plain_texts texts all))
