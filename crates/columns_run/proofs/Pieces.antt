-- Each piece of a line takes the columns that it is drawn on.
use Rattle.std.proofs.Common.{◌≡◌, ◌&&◌, ◌||◌, ℕ, zero, suc, ◌+◌, All, false, true, List, [], ◌∷◌, ◌++◌, Option, None, length, map, get_or, replicate, refl, ap, sym, subst, ◌∙◌, arith}
use Rattle.std.specs.Prelude.{chars, encode_utf8, encode_utf8_all, flat_map, slice_index, IsUtf8}
use Rattle.std.specs.List.{AllByRecursion, list_all, sum_by}
use Rattle.std.proofs.Math.Utf8.{scalars}
use Rattle.std.proofs.lemmas.List.Elements.{All-from_recursion}
use Rattle.std.proofs.lemmas.List.Sums.{sum_by-cons}
use Rattle.std.proofs.lemmas.Simd.{map-map}
use Rattle.std.proofs.lemmas.Str.{chars-encodes, chars-nil, IsUtf8-nil}
use Rattle.ansi_scan.specs.Sequences.{IsWhole, NoneBroken}
use Rattle.ansi_scan.specs.Pieces.{pieces}
use Rattle.ansi_str.specs.StyledText.{strip}
use Rattle.ansi_str_search.specs.Text.Characters.{shown_chars}
use Rattle.columns_asked.proofs.Tables.{kept-whole}
use Rattle.columns_asked.specs.DrawnTables.{asked_widths, heights_of, resized_rows}
use Rattle.columns_asked.specs.Colors.ColumnColors.{cell_color}
use Rattle.program_options.specs.Columns.ColumnColors.{AllClose}
use Rattle.program_options.specs.Columns.Settings.{default_settings}
use Rattle.grid_config.specs.Compact.{Compact}
use Rattle.grid_config.specs.Looks.{Look, compact_look}
use Rattle.grid_config.specs.Colors.{Color}
use Rattle.grid_config_values.specs.declared.position.Position.{Position}
use Rattle.grid_records_measure.proofs.Plain.{measure-plain, one-column}
use Rattle.grid_records_measure.proofs.TextLines.{text_lines-shown}
use Rattle.grid_records_measure.specs.Measures.{line_cost, cost, measure, own_width}
use Rattle.grid_records_measure.specs.PlainCharacters.{is_one_column, is_plain_character, is_two_columns}
use Rattle.grid_records_measure.specs.TextLines.{line_measure, shown_lines, text_lines}
use Rattle.grid_records_estimate.specs.Rows.{text_at}
use Rattle.papergrid_picture.specs.Colors.ClosingColors.{ShowNothing}
use Rattle.papergrid_picture.specs.Colors.ColoredLines.{with_painted_lines}
use Rattle.papergrid_picture.proofs.ColorsLemmas.Stripped.{AreSame, AreSame-append, AreSame-character, AreSame-nothing}
use Rattle.papergrid_picture.proofs.Items.{Anything, colored-anyhow}
use Rattle.papergrid_picture.proofs.Related.{All-get_or, parts-hold}
use Rattle.papergrid_picture.proofs.Shown.{IsClosedPart, BeginsNoSequence-space, lines-closed_parts, pieces-nothing, those-map}
use Rattle.papergrid_picture.proofs.Stripped.{Leaves, Leaves-append, Leaves-character}
use Rattle.papergrid_picture.specs.Blocks.{Fill, Glyph, Grid, Part, TextLine}
use Rattle.papergrid_picture.specs.CellLines.{cell_lines, cell_measures, those}
use Rattle.papergrid_picture.specs.Picture.{PlacedPart, parts_of, picture_line}
use Rattle.papergrid_picture.specs.Reading.{Reading, part_items}
use Rattle.papergrid_picture.specs.Shown.{AreWholeTexts, BeginsNoSequence, IsWholeText as IsWholeCell, ShowsOnly}
use Rattle.papergrid_picture.specs.Tables.{in_bytes, table_grid}
use Rattle.columns_run.specs.DrawnTables.{content_columns, grid_of, line_bytes, placed_bytes, placed_columns, resized_texts}
use Rattle.columns_run.specs.Narrow.{HasNarrowGlyphs, IsNarrowCharacter}
use Rattle.columns_run.specs.Rows.{cell_parts, stripped}
use Rattle.columns_run.specs.Wanted.{Wanted, without_colors}
use Rattle.columns_run.proofs.Bytes.{line-text}
use Rattle.columns_run.proofs.Cells.{whole_cells, whole_text}
use Rattle.columns_run.proofs.Colors.{cells-silent, colored-same, painted-is}
use Rattle.columns_run.proofs.Plain.{bare, default-narrow, plain-space, shown-only, shown-plain}

-- ---- a character in each of some columns

module _ (c : ℕ) (is : BeginsNoSequence c) where
  filled-same : (n : ℕ) → AreSame (flat_map encode_utf8 (replicate n c)) (flat_map encode_utf8 (replicate n c))
  filled-same zero = AreSame-nothing
  filled-same (suc n) =
      let rest = flat_map encode_utf8 (replicate n c) in
      AreSame-append (encode_utf8 c) rest (encode_utf8 c) rest (AreSame-character c is) (filled-same n)

  filled-left : (n : ℕ) → Leaves (flat_map encode_utf8 (replicate n c)) (flat_map encode_utf8 (replicate n c))
  filled-left zero = record { whole = subst NoneBroken (sym pieces-nothing) tt; left = ap strip pieces-nothing }
  filled-left (suc n) =
      let rest = flat_map encode_utf8 (replicate n c) in
      Leaves-append (encode_utf8 c) rest (encode_utf8 c) rest (Leaves-character c is) (filled-left n)

  encodes-filled : (n : ℕ) → flat_map encode_utf8 (replicate n c) ≡ encode_utf8_all (replicate n c)
  encodes-filled zero = refl
  encodes-filled (suc n) = ap (λ bytes. encode_utf8 c ++ bytes) (encodes-filled n)

  scalars-filled : (n : ℕ) → scalars (replicate n c) ≡ true
  scalars-filled zero = refl
  scalars-filled (suc n) = ap (λ b. b && scalars (replicate n c)) is.scalar ∙ scalars-filled n

  -- it shows that character so many times
  filled-shown : (n : ℕ) → shown_chars (flat_map encode_utf8 (replicate n c)) ≡ replicate n c
  filled-shown n = ap chars ((filled-left n).left ∙ encodes-filled n) ∙ chars-encodes (replicate n c) (scalars-filled n)

summed : (f : ℕ → ℕ) (n c : ℕ) → f c ≡ 1 → sum_by f (replicate n c) ≡ n
summed f zero c one = refl
summed f (suc n) c one =
    let rest = summed f n c one in
    sum_by-cons f c (replicate n c) ∙ (let all : f c + sum_by f (replicate n c) ≡ suc n = omega (arith, one, rest) in all)

costs-one : (c : ℕ) → IsNarrowCharacter c → cost c ≡ 1
costs-one c is = let own = is.one_column in omega (arith, own)

filled-columns : (n c : ℕ) → IsNarrowCharacter c → line_cost (shown_chars (flat_map encode_utf8 (replicate n c))) ≡ n
filled-columns n c is = ap line_cost (filled-shown c (shown-plain c is) n) ∙ summed cost n c (costs-one c is)

-- a character of one column in every text
abbrev IsNarrow : ℕ → Type 0
IsNarrow c = BeginsNoSequence c × (is_one_column c ≡ true)

all-narrow : (n c : ℕ) → is_one_column c ≡ true → list_all is_plain_character (replicate n c) ≡ true
all-narrow zero c is = refl
all-narrow (suc n) c is = ap (λ b. (b || is_two_columns c) && list_all is_plain_character (replicate n c)) is ∙ all-narrow n c is

filled-measure : (n c : ℕ) → IsNarrow c → measure (shown_chars (flat_map encode_utf8 (replicate n c))) ≡ n
filled-measure n c is =
    ap measure (filled-shown c is.0 n) ∙ measure-plain (replicate n c) (all-narrow n c is.1) ∙ summed own_width n c (one-column c is.1)

-- ---- a line of a cell

abbrev shown_measure : List ℕ → ℕ
shown_measure bytes = measure (shown_chars bytes)

measured-nothing : shown_measure [] ≡ 0
measured-nothing = ap (λ ps. measure (chars (strip ps))) pieces-nothing ∙ ap measure chars-nil ∙ measure-plain [] refl

measured-at : (parts : List (List ℕ)) (k : ℕ) → shown_measure (get_or (map (λ part. part) parts) k []) ≡ get_or (map shown_measure parts) k 0
measured-at [] k = measured-nothing
measured-at (part ∷ parts) zero = refl
measured-at (part ∷ parts) (suc k) = measured-at parts k

-- a line measures what the cell says of it
line-measured : (text : List ℕ) (k : ℕ) → IsWholeCell text → shown_measure (get_or (cell_lines false false text) k []) ≡ slice_index (cell_measures false false text) k
line-measured text k whole =
    let kept : ℕ × ℕ = (0, length (shown_lines (pieces text))) in
    let measures : map shown_measure (those kept (text_lines text)) ≡ cell_measures false false text =
    sym (map-map line_measure stripped (those kept (text_lines text)))
    ∙ ap (map line_measure) (sym (those-map stripped kept (text_lines text)))
    ∙ ap (λ (lines : List (List ℕ)). map line_measure (those kept lines)) (text_lines-shown text whole.whole) in
    measured-at (those kept (text_lines text)) k ∙ ap (λ (ms : List ℕ). get_or ms k 0) measures

-- no sequence of it is broken
line-unbroken : (text : List ℕ) (k : ℕ) → IsWholeCell text → NoneBroken (pieces (get_or (cell_lines false false text) k []))
line-unbroken text k whole =
    subst (λ (bytes : List ℕ). NoneBroken (pieces bytes)) (sym (line-text text k))
    (All-get_or (λ (part : List ℕ). NoneBroken (pieces part)) (text_lines text) k []
    (each (text_lines text) (lines-closed_parts text whole))
    (subst NoneBroken (sym pieces-nothing) tt))
  where
    each : (parts : List (List ℕ)) → AllByRecursion IsClosedPart parts → AllByRecursion (λ (part : List ℕ). NoneBroken (pieces part)) parts
    each [] all = tt
    each (part ∷ parts) all = (all.0.closed.none_broken, each parts all.1)

-- ---- the pieces of a line

module _ (style : Compact) (texts : List (List (List ℕ))) (colors : Position → Option Color) (widths heights : List ℕ) (whole : AreWholeTexts texts) (silent : ShowNothing colors) where
  abbrev look : Look
  look = compact_look style

  abbrev grid : Grid
  grid = table_grid look texts (λ _. None) widths heights

  abbrev reading : Reading ℕ
  reading = with_painted_lines (in_bytes look texts) colors

  whole-at : (cell : Position) → IsWholeCell (text_at texts cell)
  whole-at cell =
      All-get_or IsWholeCell (get_or texts cell.row []) cell.col [] (All-get_or (AllByRecursion IsWholeCell) texts cell.row [] whole tt)
      (record { utf8 = IsUtf8-nil; whole = subst NoneBroken (sym pieces-nothing) tt })

  -- a line in its colour measures what the line does
  painted-measured : (cell : Position) (k : ℕ) → shown_measure (reading.line cell k) ≡ slice_index (cell_measures false false (text_at texts cell)) k
  painted-measured cell k =
      let bytes = get_or (cell_lines false false (text_at texts cell)) k [] in
      ap shown_measure (painted-is look texts (colors cell) bytes)
      ∙ ap (λ (shown : List ℕ). measure (chars shown)) (colored-same (colors cell) bytes (silent cell) (line-unbroken (text_at texts cell) k (whole-at cell))).one.left
      ∙ line-measured (text_at texts cell) k (whole-at cell)

  pieces-of : (P : Part → Type 0) (pieces : List PlacedPart) → AllByRecursion P (parts_of pieces) → AllByRecursion (λ piece. P piece.part) pieces
  pieces-of P [] all = tt
  pieces-of P (piece ∷ pieces) all = (all.0, pieces-of P pieces all.1)

  -- what holds of all its parts, by what they are of
  pub each-piece : (P : Part → Type 0) (C : ℕ → Type 0) → C 0x20
      → ((width c : ℕ) (color : Option Color) → C c → P (record { width = width; content = Fill c; color = color }))
      → ((width c : ℕ) (color : Option Color) → C c → P (record { width = width; content = Glyph c; color = color }))
      → ((cell : Position) (k : ℕ) → P (record { width = slice_index (grid.measures cell) k; content = TextLine cell k; color = None }))
      → ShowsOnly C look → (y : ℕ) → All (λ piece. P piece.part) (picture_line grid y)
  each-piece P C space fills glyphs texts shown y =
      All-from_recursion (λ (piece : PlacedPart). P piece.part) (picture_line grid y)
      (pieces-of P (picture_line grid y)
      (parts-hold P C Anything grid space (λ width c color of_c _. fills width c color of_c) (λ width c color of_c _. glyphs width c color of_c) texts shown (colored-anyhow look) y))

  -- without its sequences a line in colours is the line without them
  abbrev bare_reading : Reading ℕ
  bare_reading = with_painted_lines (in_bytes look texts) (λ _. None)

  abbrev IsSamePart : Part → Type 0
  IsSamePart part = AreSame (part_items reading part) (part_items bare_reading part)

  parts-same : ShowsOnly BeginsNoSequence look → (y : ℕ) → AllByRecursion IsSamePart (parts_of (picture_line grid y))
  parts-same shown y =
      parts-hold IsSamePart BeginsNoSequence Anything grid BeginsNoSequence-space
      (λ width c color is _. filled-same c is width) (λ width c color is _. filled-same c is width)
      (λ cell k.
      let bytes = get_or (cell_lines false false (text_at texts cell)) k [] in
      subst (λ (painted : List ℕ). AreSame painted bytes) (sym (painted-is look texts (colors cell) bytes))
      (colored-same (colors cell) bytes (silent cell) (line-unbroken (text_at texts cell) k (whole-at cell))))
      shown (colored-anyhow look) y

  pieces-same : (found : List PlacedPart) → AllByRecursion IsSamePart (parts_of found) → AreSame (flat_map (λ piece. part_items reading piece.part) found) (flat_map (λ piece. part_items bare_reading piece.part) found)
  pieces-same [] all = AreSame-nothing
  pieces-same (piece ∷ found) all =
      AreSame-append (part_items reading piece.part) (flat_map (λ piece. part_items reading piece.part) found) (part_items bare_reading piece.part) (flat_map (λ piece. part_items bare_reading piece.part) found) all.0
      (pieces-same found all.1)

  pub lines-same : ShowsOnly BeginsNoSequence look → (y : ℕ)
      → AreSame (flat_map (λ piece. part_items reading piece.part) (picture_line grid y)) (flat_map (λ piece. part_items bare_reading piece.part) (picture_line grid y))
  lines-same shown y = pieces-same (picture_line grid y) (parts-same shown y)

  pub columns-taken : HasNarrowGlyphs style → (y : ℕ) → All (λ piece. content_columns piece.part.content (part_items reading piece.part) ≡ piece.part.width) (picture_line grid y)
  unfolding HasNarrowGlyphs
  columns-taken narrow y =
      each-piece (λ part. content_columns part.content (part_items reading part) ≡ part.width) IsNarrowCharacter plain-space
      (λ width c color is. filled-columns width c is) (λ width c color is. filled-columns width c is)
      painted-measured
      (shown-only IsNarrowCharacter style narrow.glyphs narrow.margin narrow.padding plain-space) y

  pub measures-taken : style ≡ default_settings → (y : ℕ) → All (λ piece. shown_measure (part_items reading piece.part) ≡ piece.part.width) (picture_line grid y)
  measures-taken same y =
      each-piece (λ part. shown_measure (part_items reading part) ≡ part.width) IsNarrow (BeginsNoSequence-space, refl)
      (λ width c color is. filled-measure width c is) (λ width c color is. filled-measure width c is)
      painted-measured
      (subst (λ (style : Compact). ShowsOnly IsNarrow (compact_look style)) (sym same) default-narrow) y

-- ---- the table of a text

module _ (wanted : Wanted) (input : List ℕ) (y : ℕ) where
  pub takes-columns : HasNarrowGlyphs wanted.style → AllClose wanted.colors → IsUtf8 input → IsWhole input → All (λ piece. placed_columns wanted input piece ≡ piece.part.width) (picture_line (grid_of wanted input) y)
  unfolding grid_of resized_texts placed_bytes placed_columns
  takes-columns narrow close utf8 whole =
      let style = wanted.style in
      let asked = wanted.limit in
      let kept = resized_rows style asked (cell_parts input) in
      columns-taken style kept (cell_color wanted.colors) (asked_widths style asked (cell_parts input)) (heights_of style kept) (kept-whole style asked (cell_parts input) (whole_cells input (whole_text input utf8 whole))) (cells-silent wanted.colors close) narrow y

  pub takes-measures : wanted.style ≡ default_settings → AllClose wanted.colors → IsUtf8 input → IsWhole input → All (λ piece. measure (shown_chars (placed_bytes wanted input piece)) ≡ piece.part.width) (picture_line (grid_of wanted input) y)
  unfolding grid_of resized_texts placed_bytes
  takes-measures same close utf8 whole =
      let style = wanted.style in
      let asked = wanted.limit in
      let kept = resized_rows style asked (cell_parts input) in
      measures-taken style kept (cell_color wanted.colors) (asked_widths style asked (cell_parts input)) (heights_of style kept) (kept-whole style asked (cell_parts input) (whole_cells input (whole_text input utf8 whole))) (cells-silent wanted.colors close) same y

  -- without its sequences a line is that line without colours
  pub line-left : HasNarrowGlyphs wanted.style → AllClose wanted.colors → IsUtf8 input → IsWhole input → strip (pieces (line_bytes wanted input y)) ≡ strip (pieces (line_bytes (without_colors wanted) input y))
  unfolding grid_of resized_texts placed_bytes
  line-left narrow close utf8 whole =
      let style = wanted.style in
      let asked = wanted.limit in
      let kept = resized_rows style asked (cell_parts input) in
      (lines-same style kept (cell_color wanted.colors) (asked_widths style asked (cell_parts input)) (heights_of style kept) (kept-whole style asked (cell_parts input) (whole_cells input (whole_text input utf8 whole)))
      (cells-silent wanted.colors close) (bare style narrow).shown y).one.left
