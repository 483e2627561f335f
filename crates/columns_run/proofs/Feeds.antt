-- No line of the table shows a line feed or leaves a style open: so the output shows the lines of the table.
use Rattle.std.proofs.Common.{◌≡◌, ◌≢◌, ◌==◌, ◌||◌, ◌<◌, ℕ, zero, suc, Bool, true, false, All, List, [], ◌∷◌, ◌++◌, Option, None, Some, length, map, get_or, replicate, refl, ap, sym, subst, ◌∙◌, arith, append-nil, ne_eqb}
use Rattle.std.specs.Prelude.{IfSome, IsUtf8, encode_utf8, flat_map}
use Rattle.std.specs.Char.{is_control}
use Rattle.std.specs.List.{AllByRecursion, join_with_byte, list_any, range_with_len}
use Rattle.std.proofs.lemmas.List.{append_assoc}
use Rattle.std.proofs.lemmas.List.Elements.{All-from_recursion, recursion_from_All}
use Rattle.std.proofs.lemmas.List.Folds.{list_any-append}
use Rattle.std.proofs.lemmas.Str.{inside_one}
use Rattle.ansi_scan.specs.Sequences.{IsWhole, Piece}
use Rattle.ansi_scan.specs.Pieces.{pieces}
use Rattle.ansi_scan.proofs.Existence.{ArePiecesOf-pieces}
use Rattle.ansi_scan.proofs.Uniqueness.{pieces-ArePiecesOf}
use Rattle.ansi_str.specs.Lines.{IsClosedLine}
use Rattle.ansi_str.specs.StyledText.{strip, styled, styled_from}
use Rattle.columns_asked.proofs.Tables.{kept-whole}
use Rattle.columns_asked.specs.DrawnTables.{asked_widths, heights_of, resized_rows}
use Rattle.columns_asked.specs.Colors.ColumnColors.{cell_color}
use Rattle.grid_config.specs.Colors.{Color}
use Rattle.grid_config.specs.Compact.{Compact}
use Rattle.grid_config.specs.Looks.{Look, compact_look}
use Rattle.grid_config_values.specs.declared.position.Position.{Position}
use Rattle.grid_records_estimate.specs.Rows.{text_at}
use Rattle.grid_records_measure.proofs.LinesAndBlocks.{lines-closed, lines-joined}
use Rattle.grid_records_measure.proofs.TextLines.{text_lines-are}
use Rattle.grid_records_measure.specs.TextLines.{line_feed, text_lines}
use Rattle.papergrid_picture.specs.Colors.ClosingColors.{AreClosing, IsClosing}
use Rattle.papergrid_picture.specs.Colors.ColoredLines.{with_painted_lines}
use Rattle.papergrid_picture.specs.Colors.ColoredPicture.{opened_by}
use Rattle.papergrid_picture.proofs.ColorsLemmas.Lines.{ShowsHere-painted, closing-shows_nothing}
use Rattle.papergrid_picture.proofs.ColorsLemmas.Stripped.{closing-show_nothing}
use Rattle.papergrid_picture.proofs.Related.{All-append, All-get_or}
use Rattle.papergrid_picture.proofs.Shown.{IsClosedPart, ShowsHere, ShowsHere-append, ShowsHere-character, ShowsHere-nothing, lines-closed_parts, pieces-nothing, whole-at}
use Rattle.papergrid_picture.proofs.Stripped.{Leaves, Leaves-append, Leaves-character}
use Rattle.papergrid_picture.specs.Blocks.{Grid}
use Rattle.papergrid_picture.specs.CellLines.{cell_lines}
use Rattle.papergrid_picture.specs.Frame.{line_count}
use Rattle.papergrid_picture.specs.Picture.{PlacedPart, picture_line}
use Rattle.papergrid_picture.specs.Reading.{Reading, part_items}
use Rattle.papergrid_picture.specs.Shown.{AreWholeTexts, IsWholeText as IsWholeCell, Styled, in_plain}
use Rattle.papergrid_picture.specs.Tables.{in_bytes, table_grid}
use Rattle.columns_run.specs.DrawnTables.{colored_line, grid_of, line_bytes, output_of, placed_bytes, resized_texts}
use Rattle.columns_run.specs.Narrow.{HasNarrowGlyphs, IsNarrowCharacter, IsRunnable}
use Rattle.columns_run.specs.Rows.{cell_parts, stripped}
use Rattle.columns_run.specs.Wanted.{Wanted}
use Rattle.columns_run.proofs.Bytes.{line-text, output-lines}
use Rattle.columns_run.proofs.Cells.{whole_cells, whole_text}
use Rattle.columns_run.proofs.Colors.{cells-close, colored-same, painted-is}
use Rattle.columns_run.proofs.Pieces.{each-piece}
use Rattle.columns_run.proofs.Plain.{plain-space, shown-only, shown-plain}

-- ---- bytes of one line

abbrev has_feed : List ℕ → Bool
has_feed bytes = list_any (λ byte. byte == 0x0a) bytes

-- they leave no style open, and show no line feed
record IsLine (bytes : List ℕ) : Type 0 where
  shows : ShowsHere bytes (styled (pieces bytes))
  feeds : has_feed (strip (pieces bytes)) ≡ false

line-shown : (bytes : List ℕ) (xs : List Styled) → ShowsHere bytes xs → has_feed (strip (pieces bytes)) ≡ false → IsLine bytes
line-shown bytes xs here none = record { shows = record { utf8 = here.utf8; closed = here.closed; shown = refl }; feeds = none }

line-nothing : IsLine []
line-nothing = line-shown [] [] ShowsHere-nothing (ap (λ (ps : List Piece). has_feed (strip ps)) pieces-nothing)

line-append : (a b : List ℕ) → IsLine a → IsLine b → IsLine (a ++ b)
line-append a b first second =
    let one : Leaves a (stripped a) = record { whole = first.shows.closed.none_broken; left = refl } in
    let two : Leaves b (stripped b) = record { whole = second.shows.closed.none_broken; left = refl } in
    let both = Leaves-append a b (stripped a) (stripped b) one two in
    line-shown (a ++ b) (styled (pieces a) ++ styled (pieces b)) (ShowsHere-append a b (styled (pieces a)) (styled (pieces b)) first.shows second.shows)
    (ap has_feed both.left ∙ list_any-append (λ byte. byte == 0x0a) (stripped a) (stripped b) ∙ ap (λ t. t || has_feed (stripped b)) first.feeds ∙ second.feeds)

closed-line : (bytes : List ℕ) → IsLine bytes → IsClosedLine bytes
closed-line bytes is = record { pieces = pieces bytes; of_line = ArePiecesOf-pieces bytes; closed = is.shows.closed; one_line = is.feeds }

-- ---- glyphs and fills

no-byte : (bytes : List ℕ) → ((k : ℕ) → k < length bytes → get_or bytes k 0 ≢ line_feed) → has_feed bytes ≡ false
no-byte [] none = refl
no-byte (b ∷ bs) none =
    ap (λ t. t || has_feed bs) (ne_eqb b line_feed (none 0 (omega arith)))
    ∙ no-byte bs (λ k inside. none (suc k) (omega (arith, inside)))

no-feed_in : (c : ℕ) → c ≢ line_feed → has_feed (encode_utf8 c) ≡ false
no-feed_in c other = no-byte (encode_utf8 c) (λ k inside same.
    let low : get_or (encode_utf8 c) k 0 < 128 = omega (arith, same) in
    other (inside_one c [] (encode_utf8 c) k (sym (append-nil (encode_utf8 c))) inside low ∙ same))

other-than_feed : (c : ℕ) → IsNarrowCharacter c → c ≢ line_feed
other-than_feed c is same = let clash : false ≡ true = sym is.no_control ∙ ap is_control same in absurd (cc clash)

line-character : (c : ℕ) → IsNarrowCharacter c → IsLine (encode_utf8 c)
line-character c is =
    let begins = shown-plain c is in
    line-shown (encode_utf8 c) (in_plain c ∷ []) (ShowsHere-character c begins) (ap has_feed (Leaves-character c begins).left ∙ no-feed_in c (other-than_feed c is))

line-filled : (c : ℕ) → IsNarrowCharacter c → (n : ℕ) → IsLine (flat_map encode_utf8 (replicate n c))
line-filled c is zero = line-nothing
line-filled c is (suc n) = line-append (encode_utf8 c) (flat_map encode_utf8 (replicate n c)) (line-character c is) (line-filled c is n)

-- ---- lines of a text

both-lines : (parts : List (List ℕ)) → AllByRecursion IsClosedPart parts → AllByRecursion IsClosedLine parts → AllByRecursion IsLine parts
both-lines [] closed line = tt
both-lines (part ∷ parts) closed line = (
  line-shown part (styled (pieces part)) (record { utf8 = closed.0.utf8; closed = closed.0.closed; shown = refl })
      (subst (λ (ps : List Piece). has_feed (strip ps) ≡ false) (sym (pieces-ArePiecesOf part line.0.pieces line.0.of_line)) line.0.one_line),
  both-lines parts closed.1 line.1,
)

line-of_text : (text : List ℕ) (k : ℕ) → IsWholeCell text → IsLine (get_or (text_lines text) k [])
line-of_text text k whole =
    let lines = text_lines text in
    All-get_or IsLine lines k []
    (both-lines lines (lines-closed_parts text whole) (recursion_from_All IsClosedLine lines (lines-closed text (pieces text) lines (ArePiecesOf-pieces text) whole.whole (text_lines-are text))))
    line-nothing

line-colored : (look : Look) (texts : List (List (List ℕ))) (color : Option Color) (bytes : List ℕ) → IfSome color IsClosing → IsLine bytes → IsLine (colored_line color bytes)
line-colored look texts None bytes closes is = is
line-colored look texts (Some color) bytes closes is =
    let shown = styled_from (opened_by color) (pieces bytes) in
    let here : ShowsHere (colored_line (Some color) bytes) shown =
    subst (λ (found : List ℕ). ShowsHere found shown) (painted-is look texts (Some color) bytes) (ShowsHere-painted color closes look texts bytes (styled (pieces bytes)) is.shows) in
    line-shown (colored_line (Some color) bytes) shown here
    (ap has_feed (colored-same (Some color) bytes (closing-shows_nothing color closes) is.shows.closed.none_broken).one.left ∙ is.feeds)

-- ---- a table

module _ (style : Compact) (texts : List (List (List ℕ))) (colors : Position → Option Color) (widths heights : List ℕ) (whole : AreWholeTexts texts) (close : AreClosing colors) where
  abbrev look : Look
  look = compact_look style

  abbrev grid : Grid
  grid = table_grid look texts (λ _. None) widths heights

  abbrev reading : Reading ℕ
  reading = with_painted_lines (in_bytes look texts) colors

  abbrev IsLinePart : PlacedPart → Type 0
  IsLinePart placed = IsLine (part_items reading placed.part)

  line-of_cell : (cell : Position) (k : ℕ) → IsLine (reading.line cell k)
  line-of_cell cell k =
      let text = text_at texts cell in
      let bytes = get_or (cell_lines false false text) k [] in
      subst IsLine (sym (painted-is look texts (colors cell) bytes))
      (line-colored look texts (colors cell) bytes (close cell) (subst IsLine (sym (line-text text k)) (line-of_text text k (whole-at texts whole cell))))

  parts-lines : HasNarrowGlyphs style → (y : ℕ) → All IsLinePart (picture_line grid y)
  unfolding HasNarrowGlyphs
  parts-lines narrow y =
      each-piece style texts colors widths heights whole (closing-show_nothing colors close) (λ part. IsLine (part_items reading part)) IsNarrowCharacter plain-space
      (λ width c color is. line-filled c is width) (λ width c color is. line-filled c is width)
      line-of_cell
      (shown-only IsNarrowCharacter style narrow.glyphs narrow.margin narrow.padding plain-space) y

  line-of_parts : (found : List PlacedPart) → AllByRecursion IsLinePart found → IsLine (flat_map (λ placed. part_items reading placed.part) found)
  line-of_parts [] all = line-nothing
  line-of_parts (placed ∷ found) all = line-append (part_items reading placed.part) (flat_map (λ placed. part_items reading placed.part) found) all.0 (line-of_parts found all.1)

  line-is : HasNarrowGlyphs style → (y : ℕ) → IsLine (flat_map (λ placed. part_items reading placed.part) (picture_line grid y))
  line-is narrow y = line-of_parts (picture_line grid y) (recursion_from_All IsLinePart (picture_line grid y) (parts-lines narrow y))

-- ---- lines that are ended

ended-joined : (line : ℕ → List ℕ) (ys : List ℕ) → flat_map (λ y. line y ++ line_feed ∷ []) ys ≡ join_with_byte line_feed (map line ys ++ [] ∷ [])
ended-joined line [] = refl
ended-joined line (y ∷ []) = append-nil (line y ++ line_feed ∷ [])
ended-joined line (y ∷ next ∷ ys) =
    append_assoc (line y) (line_feed ∷ []) (flat_map (λ k. line k ++ line_feed ∷ []) (next ∷ ys))
    ∙ ap (λ rest. line y ++ (line_feed ∷ rest)) (ended-joined line (next ∷ ys))

some-last : (lines : List (List ℕ)) → 0 < length (lines ++ [] ∷ [])
some-last [] = omega arith
some-last (line ∷ lines) = omega arith

-- ---- the table of a text

module _ (wanted : Wanted) (input : List ℕ) (runnable : IsRunnable wanted) (utf8 : IsUtf8 input) (whole : IsWhole input) where
  pub line-closed : (y : ℕ) → IsClosedLine (line_bytes wanted input y)
  unfolding grid_of resized_texts placed_bytes
  line-closed y =
      let style = wanted.style in
      let asked = wanted.limit in
      let kept = resized_rows style asked (cell_parts input) in
      closed-line (line_bytes wanted input y)
      (line-is style kept (cell_color wanted.colors) (asked_widths style asked (cell_parts input)) (heights_of style kept) (kept-whole style asked (cell_parts input) (whole_cells input (whole_text input utf8 whole)))
      (cells-close wanted.colors runnable.close) runnable.narrow y)

  each-closed : (ys : List ℕ) → AllByRecursion IsClosedLine (map (line_bytes wanted input) ys)
  each-closed [] = tt
  each-closed (y ∷ ys) = (line-closed y, each-closed ys)

  pub lines-are : text_lines (output_of wanted input) ≡ map (line_bytes wanted input) (range_with_len 0 (line_count (grid_of wanted input).frame)) ++ [] ∷ []
  lines-are =
      let ys = range_with_len 0 (line_count (grid_of wanted input).frame) in
      let found = map (line_bytes wanted input) ys in
      let lines = found ++ [] ∷ [] in
      let joined = join_with_byte line_feed lines in
      let all : AllByRecursion IsClosedLine lines = All-append IsClosedLine found ([] ∷ []) (each-closed ys) (closed-line [] line-nothing, tt) in
      ap text_lines (output-lines wanted input runnable.narrow ∙ ended-joined (line_bytes wanted input) ys)
      ∙ lines-joined lines (text_lines joined) (pieces joined) (some-last found) (All-from_recursion IsClosedLine lines all) (ArePiecesOf-pieces joined) (text_lines-are joined)
