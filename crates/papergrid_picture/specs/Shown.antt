-- What the picture of a table shows: its characters, in their styles or without.
use Rattle.std.specs.Prelude.{◌≡◌, ◌≢◌, ℕ, Bool, ◌||◌, false, true, List, [], ◌∷◌, Option, None, IfSome, IsUtf8, encode_utf8_all, flat_map, map, slice_index_or}
use Rattle.std.specs.Char.{IsScalar}
use Rattle.std.specs.List.{AllByRecursion, list_all, slice_split}
use Rattle.ansi_scan.specs.Sequences.{Piece, ArePiecesOf, NoneBroken, escape}
use Rattle.ansi_scan.specs.Pieces.{pieces}
use Rattle.ansi_scan.specs.Attributes.{Attributes, plain_attributes}
use Rattle.ansi_str.specs.Characters.{shown_chars}
use Rattle.ansi_str.specs.StyledText.{IsClosed, has_escape, strip, styled}
use Rattle.grid_config_values.specs.declared.position.Position.{Position}
use Rattle.grid_config_values.specs.declared.sides.Sides.{Sides}
use Rattle.grid_config_values.specs.Glyphs.{BoundaryKind, along_column, crossing, in_row}
use Rattle.grid_config.specs.Colors.{Color, no_color}
use Rattle.grid_config.specs.Looks.{Look}
use Rattle.grid_records_measure.specs.Measures.{cost, measure}
use Rattle.grid_records_measure.specs.PlainCharacters.{is_plain_character}
use Rattle.grid_records_measure.specs.TextLines.{is_line_feed}
use Rattle.papergrid_picture.specs.Frame.{frame_of}
use Rattle.papergrid_picture.specs.Blocks.{Grid}
use Rattle.papergrid_picture.specs.CellLines.{kept_lines, those}
use Rattle.papergrid_picture.specs.Reading.{Reading, grid_items, painted}

-- ---- what a look shows besides texts

abbrev pub OnEachSide : {T : Type 0} → (T → Type 0) → Sides T → Type 0
OnEachSide P sides = P sides.left × P sides.right × P sides.top × P sides.bottom

-- each glyph that is set, each fill and each character for justification is of a kind
pub record ShowsOnly (P : ℕ → Type 0) (look : Look) : Type 0 where
  pub crossings : (row column : BoundaryKind) → IfSome (crossing look.borders row column) P
  pub along_columns : (kind : BoundaryKind) → IfSome (along_column look.borders kind) P
  pub in_rows : (kind : BoundaryKind) → IfSome (in_row look.borders kind) P
  pub margins : OnEachSide (λ margin. P margin.fill) look.margin
  pub paddings : (cell : Position) → OnEachSide (λ padding. P padding.fill) (look.padding cell)
  pub justification : (cell : Position) → P (look.justification cell)

-- each colour, and where none is set
pub record IsColoredBy (P : Option Color → Type 0) (look : Look) : Type 0 where
  pub crossings : (row column : BoundaryKind) → P (crossing look.borders_color row column)
  pub along_columns : (kind : BoundaryKind) → P (along_column look.borders_color kind)
  pub in_rows : (kind : BoundaryKind) → P (in_row look.borders_color kind)
  pub margins : OnEachSide P look.margin_color
  pub paddings : (cell : Position) → OnEachSide P (look.padding_color cell)
  pub justification : (cell : Position) → P (look.justification_color cell)

-- a character that begins no sequence
pub record BeginsNoSequence (c : ℕ) : Type 0 where
  pub scalar : IsScalar c
  pub no_escape : c ≢ escape

-- no colour, or one that writes nothing
abbrev pub WritesNothing : Option Color → Type 0
WritesNothing color = IfSome color (λ set. set ≡ no_color)

-- a look whose glyphs and fills begin no sequence, and that has no colour
pub record IsBare (look : Look) : Type 0 where
  pub shown : ShowsOnly BeginsNoSequence look
  pub no_colors : IsColoredBy WritesNothing look

-- ---- texts

-- a text in UTF-8 without a broken ESC
pub record IsWholeText (text : List ℕ) : Type 0 where
  pub utf8 : IsUtf8 text
  pub whole : NoneBroken (pieces text)

abbrev pub AreWholeTexts : List (List (List ℕ)) → Type 0
AreWholeTexts rows = AllByRecursion (AllByRecursion IsWholeText) rows

-- the texts without their sequences
abbrev pub stripped_texts : List (List (List ℕ)) → List (List (List ℕ))
stripped_texts rows = map (map (λ text. strip (pieces text))) rows

-- ---- pictures of characters

abbrev pub Styled : Type 0
Styled = ℕ × Attributes

abbrev pub character_of : Styled → ℕ
character_of shown = shown.0

-- a character in the plain style
abbrev pub in_plain : ℕ → Styled
in_plain c = (c, plain_attributes)

-- the characters that texts show, each with its style
abbrev pub styled_texts : List (List (List ℕ)) → List (List (List Styled))
styled_texts rows = map (map (λ text. styled (pieces text))) rows

abbrev pub cell_characters : List (List (List Styled)) → List (List (List ℕ))
cell_characters rows = map (map (map character_of)) rows

-- the lines that a cell shows, with the vertical trim or without: it is split at its line feeds
abbrev pub item_lines : {X : Type 0} → (X → ℕ) → Bool → List X → List (List X)
item_lines character trim_vertical cell =
    let lines = slice_split (λ item. is_line_feed (character item)) cell in
    those (kept_lines trim_vertical (map (λ line. encode_utf8_all (map character line)) lines)) lines

-- rows of cells by what they show: each is a list of items, and each item is of one character; `bare` is a glyph or a
-- fill as an item
module _ {X : Type 0} (character : X → ℕ) (bare : ℕ → X) (look : Look) (rows : List (List (List X))) where
  abbrev pub cell_item_lines : Position → List (List X)
  cell_item_lines cell = item_lines character (look.trim_vertical cell) (slice_index_or (slice_index_or rows cell.row []) cell.col [])

  -- a line measures what its characters measure
  abbrev pub item_grid : List ℕ → List ℕ → Grid
  item_grid widths heights = record {
    frame = frame_of look widths heights;
    measures = λ cell. map (λ line. measure (map character line)) (cell_item_lines cell);
    text_color = λ _. None;
  }

  abbrev pub in_items : Reading X
  in_items = record { item = λ c. bare c ∷ []; line = λ cell k. slice_index_or (cell_item_lines cell) k []; paint = λ _ items. items }

  abbrev pub item_picture : List ℕ → List ℕ → List X
  item_picture widths heights = grid_items in_items (item_grid widths heights)

-- the picture of styled characters: glyphs, fills and line feeds have the plain style
abbrev pub styled_picture : Look → List (List (List Styled)) → List ℕ → List ℕ → List Styled
styled_picture look rows widths heights = item_picture character_of in_plain look rows widths heights

-- the picture of characters alone
abbrev pub character_picture : Look → List (List (List ℕ)) → List ℕ → List ℕ → List ℕ
character_picture look rows widths heights = item_picture (λ c. c) (λ c. c) look rows widths heights

-- bytes show these characters in their styles, and are a closed text
pub record Shows (bytes : List ℕ) (characters : List Styled) : Type 0 where
  pub text : IsUtf8 bytes
  pub shown : (ps : List Piece) → ArePiecesOf bytes ps → styled ps ≡ characters
  pub closed : (ps : List Piece) → ArePiecesOf bytes ps → IsClosed ps

-- no cell is trimmed at the ends of its lines
abbrev pub KeepsLineEnds : Look → Type 0
KeepsLineEnds look = (cell : Position) → look.trim_horizontal cell ≡ false

-- ---- the same picture in other items

-- f takes what one reading shows to what another one shows
pub record IsReadBy {X Y : Type 0} (f : X → List Y) (first : Reading X) (second : Reading Y) : Type 0 where
  pub items : (c : ℕ) → flat_map f (first.item c) ≡ second.item c
  pub lines : (cell : Position) (k : ℕ) → flat_map f (first.line cell k) ≡ second.line cell k
  pub colors : (color : Option Color) (items : List X) → flat_map f (painted first color items) ≡ painted second color (flat_map f items)

-- a text in UTF-8 without sequences
pub record IsTextWithoutEscape (text : List ℕ) : Type 0 where
  pub utf8 : IsUtf8 text
  pub no_escape : has_escape text ≡ false

abbrev pub AreTextsWithoutEscape : List (List (List ℕ)) → Type 0
AreTextsWithoutEscape rows = AllByRecursion (AllByRecursion IsTextWithoutEscape) rows

-- ---- columns

-- a character that costs one column
abbrev pub CostsOne : ℕ → Type 0
CostsOne c = cost c ≡ 1

-- a whole text that shows plain characters and line feeds
pub record IsPlainlyShown (text : List ℕ) : Type 0 where
  pub whole : IsWholeText text
  pub plain : list_all (λ c. is_plain_character c || is_line_feed c) (shown_chars text) ≡ true

abbrev pub ArePlainlyShown : List (List (List ℕ)) → Type 0
ArePlainlyShown rows = AllByRecursion (AllByRecursion IsPlainlyShown) rows
