-- What the output shows.
use Rattle.std.proofs.Common.{◌≡◌, ◌==◌, ℕ, false, All, List, [], ◌∷◌, map, refl, ap, sym, subst, ◌∙◌}
use Rattle.std.specs.Prelude.{chars, encode_utf8_all, IsUtf8}
use Rattle.std.specs.List.{AllByRecursion, slice_split}
use Rattle.std.proofs.lemmas.Simd.{map-map}
use Rattle.std.proofs.lemmas.Str.{chars-encodes, encodes-chars, scalars-chars}
use Rattle.ansi_scan.specs.Sequences.{Piece, ArePiecesOf, IsWhole, NoneBroken}
use Rattle.ansi_scan.specs.Attributes.{plain_attributes}
use Rattle.ansi_scan.specs.Pieces.{pieces}
use Rattle.ansi_scan.proofs.Existence.{ArePiecesOf-pieces}
use Rattle.ansi_scan.proofs.Uniqueness.{pieces-ArePiecesOf}
use Rattle.ansi_str.specs.StyledText.{IsClosed, has_escape, strip, styled}
use Rattle.ansi_str_search.proofs.TextLemmas.Stripping.{has_escape-strip, strip-without_escape}
use Rattle.columns_asked.specs.DrawnTables.{asked_characters, asked_picture}
use Rattle.columns_asked.proofs.Characters.{picture-alone as asked-alone}
use Rattle.columns_asked.proofs.TextsWithoutEscape.{text-plain}
use Rattle.columns_asked.specs.Colors.ColoredTables.{colored_items, colored_text}
use Rattle.columns_asked.specs.Colors.ColumnColors.{cell_color}
use Rattle.columns_asked.proofs.ColorsLemmas.Tables.{items-characters, items-feeds, text-shows_items}
use Rattle.program_options.specs.Columns.ColumnColors.{AllClose}
use Rattle.grid_config.specs.Compact.{Compact}
use Rattle.papergrid_picture.specs.Shown.{AreTextsWithoutEscape, AreWholeTexts, IsTextWithoutEscape, Styled, character_of, in_plain, styled_texts}
use Rattle.papergrid_picture.proofs.Shown.{ShowsHere}
use Rattle.columns_run.specs.Rows.{cell_parts, line_feed, row_texts, rows_of, tab}
use Rattle.columns_run.specs.DrawnTables.{characters_of, encoded_cells, output_of, picture, picture_without_colors, table_characters}
use Rattle.columns_run.specs.Narrow.{HasNarrowGlyphs}
use Rattle.columns_run.specs.TableShown.{ShowsTableOf}
use Rattle.columns_run.specs.Wanted.{Wanted, without_colors}
use Rattle.columns_run.proofs.Cells.{closed_cells, rows_of-characters, styled-cell_parts, whole_cells, whole_text}
use Rattle.columns_run.proofs.Colors.{cells-close, output-uncolored}
use Rattle.columns_run.proofs.Items.{map-same}
use Rattle.columns_run.proofs.Places.{IsWhole-without_escape, cell_parts-plain, plain_cells}
use Rattle.columns_run.proofs.Plain.{bare}
use Rattle.ansi_str_search.proofs.TextLemmas.Utf8Pieces.{IsUtf8-stripped, styled-characters}
use Rattle.columns_run.proofs.Splits.{IsClosedPart, IsWholeText, styled_characters}
use Rattle.columns_run.proofs.Texts.{AreScalars, AreScalars-cells, AreScalars-slice_split, AreScalars-without_empty_last, rows_of-encodes}

abbrev FeedIsPlain : Styled → Type 0
FeedIsPlain x = x.0 ≡ line_feed → x.1 ≡ plain_attributes

-- ---- the output and the picture

module _ (wanted : Wanted) (text : List ℕ) (whole : IsWholeText text) where
  abbrev style : Compact
  style = wanted.style

  all : AreWholeTexts (cell_parts text)
  all = whole_cells text whole

  picture-cells : picture wanted text ≡ colored_items style wanted.limit (cell_color wanted.colors) (styled_texts (cell_parts text)) (cell_parts text)
  unfolding picture
  picture-cells = ap (λ (rows : List (List (List Styled))). colored_items style wanted.limit (cell_color wanted.colors) rows (cell_parts text)) (sym (styled-cell_parts text whole))

  output-shows : HasNarrowGlyphs style → AllClose wanted.colors → ShowsHere (output_of wanted text) (picture wanted text)
  unfolding output_of
  output-shows narrow close =
      subst (ShowsHere (colored_text style wanted.limit (cell_color wanted.colors) (cell_parts text))) (sym picture-cells)
      (text-shows_items style wanted.limit (cell_color wanted.colors) (cell_parts text) all (bare style narrow) (cells-close wanted.colors close))

  -- ---- line feeds

  feeds-plain : All FeedIsPlain (picture wanted text)
  feeds-plain = subst (All FeedIsPlain) (sym picture-cells) (items-feeds style wanted.limit (cell_color wanted.colors) (cell_parts text) all)

  -- ---- characters

  -- colours change none
  picture-uncolored_characters : characters_of (picture wanted text) ≡ characters_of (picture_without_colors wanted (styled_characters text))
  unfolding picture_without_colors
  picture-uncolored_characters =
      ap characters_of picture-cells ∙ items-characters style wanted.limit (cell_color wanted.colors) (cell_parts text) all
      ∙ ap (λ (rows : List (List (List Styled))). characters_of (asked_picture style wanted.limit rows)) (styled-cell_parts text whole)

-- ---- the whole

pub output-shows_table : (wanted : Wanted) (text : List ℕ) → HasNarrowGlyphs wanted.style → AllClose wanted.colors → IsUtf8 text → IsWhole text → ShowsTableOf wanted text (output_of wanted text)
output-shows_table wanted text narrow close utf8 whole =
    let of_text = whole_text text utf8 whole in
    let shows = output-shows wanted text of_text narrow close in
    let bytes = output_of wanted text in
    let shown : (qs : List Piece) → ArePiecesOf bytes qs → styled qs ≡ picture wanted text = λ qs of_output. ap styled (sym (pieces-ArePiecesOf bytes qs of_output)) ∙ shows.shown in
    record {
      text = shows.utf8;
      picture = shown;
      lines = λ qs of_output. record {
        closed = subst IsClosed (pieces-ArePiecesOf bytes qs of_output) shows.closed;
        line_feeds = subst (All FeedIsPlain) (sym (shown qs of_output)) (feeds-plain wanted text of_text);
      };
    }

-- ---- without styles

pub picture-alone : (wanted : Wanted) (cs : List Styled) → characters_of (picture_without_colors wanted cs) ≡ table_characters wanted (characters_of cs)
unfolding picture_without_colors table_characters
picture-alone wanted cs =
    let style = wanted.style in
    asked-alone style wanted.limit (rows_of character_of cs) ∙ ap (asked_characters style wanted.limit) (sym (rows_of-characters cs))

plain-characters : (cs : List ℕ) → characters_of (map in_plain cs) ≡ cs
plain-characters [] = refl
plain-characters (c ∷ cs) = ap (λ rest. c ∷ rest) (plain-characters cs)

-- without styles the picture is the same
pub picture-plain : (wanted : Wanted) (cs : List Styled) → characters_of (picture_without_colors wanted cs) ≡ characters_of (picture_without_colors wanted (map in_plain (characters_of cs)))
picture-plain wanted cs =
    picture-alone wanted cs ∙ ap (table_characters wanted) (sym (plain-characters (characters_of cs))) ∙ sym (picture-alone wanted (map in_plain (characters_of cs)))

-- nor do colours change the characters
pub picture-characters : (wanted : Wanted) (text : List ℕ) → IsUtf8 text → IsWhole text → characters_of (picture wanted text) ≡ table_characters wanted (chars (strip (pieces text)))
picture-characters wanted text utf8 whole =
    picture-uncolored_characters wanted text (whole_text text utf8 whole) ∙ picture-alone wanted (styled (pieces text))
    ∙ ap (table_characters wanted) (styled-characters text (pieces text) utf8 (ArePiecesOf-pieces text))

-- ---- without sequences

module _ (text : List ℕ) (utf8 : IsUtf8 text) (none : has_escape text ≡ false) where
  plain_whole : IsWholeText text
  plain_whole = whole_text text utf8 (IsWhole-without_escape text none)

  abbrev rows_without_escape : List (List (List ℕ))
  rows_without_escape = rows_of (λ c. c) (chars text)

  -- the texts of its characters are its cells
  texts-plain : encoded_cells (chars text) ≡ cell_parts text
  texts-plain =
      sym (rows_of-encodes (chars text)) ∙ ap (rows_of (λ b. b)) (encodes-chars text utf8) ∙ sym (cell_parts-plain text none)

  cells-plain : map (map chars) (cell_parts text) ≡ rows_without_escape
  cells-plain =
      ap (map (map chars)) (sym texts-plain)
      ∙ map-map (map chars) (map encode_utf8_all) rows_without_escape
      ∙ map-same (AllByRecursion AreScalars) (λ row. map chars (map encode_utf8_all row)) (λ row. row)
      (λ row all. map-map chars encode_utf8_all row ∙ map-same AreScalars (λ cell. chars (encode_utf8_all cell)) (λ cell. cell) (λ cell good. chars-encodes cell good) row all ∙ map-itself row)
      rows_without_escape
      (AreScalars-cells (λ c. c == tab) (row_texts (λ c. c) (chars text)) (AreScalars-without_empty_last (slice_split (λ c. c == line_feed) (chars text)) (AreScalars-slice_split (λ c. c == line_feed) (chars text) (scalars-chars text utf8))))
      ∙ map-itself rows_without_escape
    where
      map-itself : {A : Type 0} (xs : List A) → map (λ x. x) xs ≡ xs
      map-itself [] = refl
      map-itself (x ∷ xs) = ap (λ rest. x ∷ rest) (map-itself xs)

  plain_texts : AreTextsWithoutEscape (cell_parts text)
  plain_texts =
      both (cell_parts text) (closed_cells text plain_whole) (subst (AllByRecursion (AllByRecursion (λ part. has_escape part ≡ false))) (sym (cell_parts-plain text none)) (plain_cells text none))
    where
      in_row : (row : List (List ℕ)) → AllByRecursion IsClosedPart row → AllByRecursion (λ part. has_escape part ≡ false) row → AllByRecursion IsTextWithoutEscape row
      in_row [] closed gone = tt
      in_row (part ∷ parts) closed gone = (record { utf8 = closed.0.utf8; no_escape = gone.0 }, in_row parts closed.1 gone.1)

      both : (rows : List (List (List ℕ))) → AllByRecursion (AllByRecursion IsClosedPart) rows → AllByRecursion (AllByRecursion (λ part. has_escape part ≡ false)) rows → AreTextsWithoutEscape rows
      both [] closed gone = tt
      both (row ∷ rows) closed gone = (in_row row closed.0 gone.0, both rows closed.1 gone.1)

  -- without colours the output is the table of its characters
  pub output-plain : (wanted : Wanted) → HasNarrowGlyphs wanted.style → output_of (without_colors wanted) text ≡ encode_utf8_all (table_characters wanted (chars text))
  unfolding table_characters
  output-plain wanted narrow =
      let style = wanted.style in
      output-uncolored (without_colors wanted) text refl
      ∙ text-plain style wanted.limit (bare style narrow) (cell_parts text) plain_texts
      ∙ ap (λ rows. encode_utf8_all (asked_characters style wanted.limit rows)) cells-plain

-- without its sequences the output is the output of the text without its own, and without colours
pub strip-output : (wanted : Wanted) (text : List ℕ) (ps qs : List Piece) → HasNarrowGlyphs wanted.style → AllClose wanted.colors → IsUtf8 text → ArePiecesOf text ps → NoneBroken ps → ArePiecesOf (output_of wanted text) qs
    → strip qs ≡ output_of (without_colors wanted) (strip ps)
strip-output wanted text ps qs narrow close utf8 of_text whole of_output =
    let is_whole : IsWhole text = record { pieces = ps; of_text = of_text; none_broken = whole } in
    let shows = output-shows_table wanted text narrow close utf8 is_whole in
    let out = output_of wanted text in
    let characters : chars (strip qs) ≡ table_characters wanted (chars (strip ps)) =
    sym (styled-characters out qs shows.text of_output) ∙ ap characters_of (shows.picture qs of_output)
    ∙ picture-characters wanted text utf8 is_whole ∙ ap (λ (found : List Piece). table_characters wanted (chars (strip found))) (pieces-ArePiecesOf text ps of_text) in
    sym (encodes-chars (strip qs) (IsUtf8-stripped out qs shows.text of_output)) ∙ ap encode_utf8_all characters
    ∙ sym (output-plain (strip ps) (IsUtf8-stripped text ps utf8 of_text) (has_escape-strip text ps of_text) wanted narrow)

-- so both outputs, stripped, are the same
pub strip-both : (wanted : Wanted) (text : List ℕ) (ps qs rs : List Piece) → HasNarrowGlyphs wanted.style → AllClose wanted.colors → IsUtf8 text → ArePiecesOf text ps → NoneBroken ps → ArePiecesOf (output_of wanted text) qs
    → ArePiecesOf (output_of wanted (strip ps)) rs → strip qs ≡ strip rs
strip-both wanted text ps qs rs narrow close utf8 of_text whole of_output of_other =
    let left = strip ps in
    let gone : has_escape left ≡ false = has_escape-strip text ps of_text in
    let again : strip (pieces left) ≡ left = strip-without_escape left (pieces left) (ArePiecesOf-pieces left) gone in
    strip-output wanted text ps qs narrow close utf8 of_text whole of_output
    ∙ sym (strip-output wanted left (pieces left) rs narrow close (IsUtf8-stripped text ps utf8 of_text) (ArePiecesOf-pieces left) (unbroken left (IsWhole-without_escape left gone)) of_other
    ∙ ap (output_of (without_colors wanted)) again)
  where
    unbroken : (bytes : List ℕ) → IsWhole bytes → NoneBroken (pieces bytes)
    unbroken bytes is = subst NoneBroken (sym (pieces-ArePiecesOf bytes is.pieces is.of_text)) is.none_broken
